use Rattle.archive_theorem.proofs.Keeper_Loads.{start-kept, step-stays_kept, own-loads, loads-as, loads-the_same}
use Rattle.archive_theorem.proofs.Keeper_Runs.{has-kept, last-loads, restarts-from, run-fails}
use Rattle.archive_theorem.proofs.Keeper_Lists.{run-list}
use Rattle.archive_theorem.proofs.laws.restart_law.Goals as goal

pub returns-clause-start : goal.returns-clause-start
returns-clause-start c = start-kept

pub returns-clause-step : goal.returns-clause-step
returns-clause-step c = step-stays_kept

pub returns-clause-load : goal.returns-clause-load
returns-clause-load c = loads-the_same

pub returns-clause-own : goal.returns-clause-own
returns-clause-own c = own-loads

pub returns-clause-same : goal.returns-clause-same
returns-clause-same c = loads-as

pub returns-clause-run : goal.returns-clause-run
returns-clause-run c = λ o r first last keeps loads. (last-loads o r first last keeps loads, restarts-from o r first last keeps loads)

pub returns-clause-fails : goal.returns-clause-fails
returns-clause-fails c = run-fails

pub returns-clause-kept : goal.returns-clause-kept
returns-clause-kept c = has-kept

pub returns-clause-list : goal.returns-clause-list
returns-clause-list c = run-list

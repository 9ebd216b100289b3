use Rattle.archive_durable.proofs.Steps.{start-has}
use Rattle.archive_durable.proofs.Runs.{run-has, run-survives, step-survives, step-after, idle-survives, known-next}
use Rattle.archive_durable.proofs.Delivery_Calls.{calls-do}
use Rattle.archive_durable.proofs.laws.crash_law.Goals as goal

pub returns-clause-has : goal.returns-clause-has
returns-clause-has g c = run-has g.F.Folder.model

pub returns-clause-between : goal.returns-clause-between
returns-clause-between g c = run-survives g.F.Folder.model

pub returns-clause-during : goal.returns-clause-during
returns-clause-during g c = step-survives g.F.Folder.model

pub returns-clause-known : goal.returns-clause-known
returns-clause-known g c = known-next g.F.Folder.model

pub returns-clause-start : goal.returns-clause-start
returns-clause-start g c = start-has g.F.Folder.model

pub returns-clause-after : goal.returns-clause-after
returns-clause-after g c = step-after g.F.Folder.model

pub returns-clause-idle : goal.returns-clause-idle
returns-clause-idle g c = idle-survives g.F.Folder.model

pub returns-clause-calls : goal.returns-clause-calls
returns-clause-calls g c = calls-do g.F.Folder.model

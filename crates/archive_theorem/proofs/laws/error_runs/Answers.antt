use Rattle.archive_theorem.proofs.Error_Sampling.{unkept-fails, found-fails, late-fails, stale-fails}
use Rattle.archive_theorem.proofs.laws.error_runs.Goals as goal

pub returns-clause-unkept : goal.returns-clause-unkept
returns-clause-unkept c = unkept-fails

pub returns-clause-found : goal.returns-clause-found
returns-clause-found c = found-fails

pub returns-clause-late : goal.returns-clause-late
returns-clause-late c = late-fails

pub returns-clause-stale : goal.returns-clause-stale
returns-clause-stale c = stale-fails

use Rattle.archive_durable.proofs.Perfect_Runs.{run-over}
use Rattle.archive_durable.proofs.laws.perfect_folder.Goals as goal

pub returns : goal.returns
returns c = run-over

use Rattle.archive_theorem.proofs.Patience_Ports.{run-by_blocks}
use Rattle.archive_theorem.proofs.laws.places_law.Goals as goal

pub returns : goal.returns
returns c = run-by_blocks

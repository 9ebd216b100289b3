use Rattle.archive_history.proofs.Unpadding.{unpadded_text}
use Rattle.archive_history.proofs.laws.kept_files.Goals as goal

pub returns : goal.returns
returns c = unpadded_text

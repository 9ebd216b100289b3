use Rattle.std.proofs.Common.{rules}
use Rattle.archive_history.proofs.names.stem_of.Goals as goal

pub returns : goal.returns
returns g c = search rules

use Rattle.std.proofs.Common.{rules}
use Rattle.archive_history.proofs.stamp.Stamp.now.Goals as goal

pub returns : goal.returns
returns g c = search rules

use Rattle.std.proofs.Common.{rules}
use Rattle.archive_history.proofs.stamp.Stamp.as_str.Goals as goal

pub returns : goal.returns
returns c = search rules

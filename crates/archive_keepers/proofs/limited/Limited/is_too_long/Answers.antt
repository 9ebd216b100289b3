use Rattle.std.proofs.Common.{rules}
use Rattle.archive_keepers.proofs.limited.Limited.is_too_long.Goals as goal

pub returns : goal.returns
returns g c = search rules

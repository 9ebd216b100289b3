use Rattle.std.proofs.Common.{rules}
use Rattle.archive_keepers.proofs.limited.LimitedKeeper.failures.Goals as goal

pub returns : goal.returns
returns g c = search rules

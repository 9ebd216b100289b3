use Rattle.std.proofs.Common.{rules}
use Rattle.archive_keepers.proofs.no_keeper.NoKeeperKeeper.keep.Goals as goal

pub returns : goal.returns
returns g c = search rules

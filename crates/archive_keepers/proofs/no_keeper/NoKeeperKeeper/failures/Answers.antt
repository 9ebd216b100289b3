use Rattle.std.proofs.Common.{rules}
use Rattle.archive_keepers.proofs.no_keeper.NoKeeperKeeper.failures.Goals as goal

pub returns : goal.returns
returns c = search rules

use Rattle.std.proofs.Common.{rules}
use Rattle.archive_keepers.proofs.folder_keeper.FolderKeeper.is_usable.Goals as goal

pub returns : goal.returns
returns g c = search rules

use Rattle.std.proofs.Common.{rules}
use Rattle.archive_keepers.proofs.folder_keeper.FolderKeeper.new.Goals as goal

pub returns-clause-usable : goal.returns-clause-usable
returns-clause-usable g c = search rules

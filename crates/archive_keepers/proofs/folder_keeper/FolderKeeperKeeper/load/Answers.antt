use Rattle.std.proofs.Common.{sym, subst}
use Rattle.folders.specs.Folder.{Stays}
use Rattle.archive_keepers.proofs.folder_keeper.FolderKeeperKeeper.load.Goals as goal

pub returns-in-Err-clause-all : goal.returns-in-Err-clause-all
returns-in-Err-clause-all g c = λ modelled other.
    subst (λ f. Stays g.F.Folder.model c.args.self.now.folder f other) (sym c.note_call.ensures.folder) (c.read.ensures.all modelled other)

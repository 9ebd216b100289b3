use Rattle.std.proofs.Common.{sym, subst}
use Rattle.folders.specs.Folder.{Stays}
use Rattle.archive_keepers.specs.Names.{kept_name}
use Rattle.archive_keepers.proofs.folder_keeper.FolderKeeper.clear_drafts.Goals as goal

pub returns-in-Err-clause-kept : goal.returns-in-Err-clause-kept
returns-in-Err-clause-kept g c = λ modelled rules.
    subst (λ f. Stays g.F.Folder.model c.args.self.now.folder f (kept_name rules)) (sym c.note_call.ensures.folder) (c.clear_drafts.ensures.kept modelled rules)

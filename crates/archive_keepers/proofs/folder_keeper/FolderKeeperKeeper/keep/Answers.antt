use Rattle.std.proofs.Common.{Err, ap, sym, subst, ◌∙◌}
use Rattle.folders.specs.Folder.{Stays}
use Rattle.archive_keepers.specs.Names.{kept_name}
use Rattle.archive_keepers.proofs.Apart.{kept_is_no_draft}
use Rattle.archive_keepers.proofs.folder_keeper.FolderKeeperKeeper.keep.Goals as goal

pub returns-in-Ok-clause-others : goal.returns-in-Ok-clause-others
returns-in-Ok-clause-others g c = λ modelled other nk nd. c.publish.ensures.others modelled other (λ is. nd (is ∙ c.draft_name.ensures)) (λ is. nk (is ∙ c.kept_name.ensures))

pub returns-in-Err-clause-not_kept : goal.returns-in-Err-clause-not_kept
returns-in-Err-clause-not_kept g c = λ modelled usable.
    let known = c.note.ensures.known usable in
    subst (λ f. Stays g.F.Folder.model c.args.self.now.folder f (kept_name c.args.ruleset)) (sym c.note.ensures.folder)
    (c.publish.ensures.not_kept modelled known.0 (c.in-Err.is ∙ ap Err known.1) (kept_name c.args.ruleset) (λ is. kept_is_no_draft c.args.ruleset c.args.ruleset (is ∙ c.draft_name.ensures)))

pub returns-in-Err-clause-others : goal.returns-in-Err-clause-others
returns-in-Err-clause-others g c = λ modelled other nk nd.
    subst (λ f. Stays g.F.Folder.model c.args.self.now.folder f other) (sym c.note.ensures.folder)
    (c.publish.ensures.others modelled other (λ is. nd (is ∙ c.draft_name.ensures)) (λ is. nk (is ∙ c.kept_name.ensures)))

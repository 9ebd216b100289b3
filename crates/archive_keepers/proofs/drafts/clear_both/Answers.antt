use Rattle.std.proofs.Common.{ℕ, List, None, ◌∙◌, subst}
use Rattle.std.proofs.lemmas.Result.{on_ok_weaker}
use Rattle.tws_file.specs.declared.«ruleset».Ruleset.TheVariants.{Lynx, Ms}
use Rattle.folders.specs.Folder.{Only}
use Rattle.folders.proofs.Steps.{stays_then}
use Rattle.archive_keepers.specs.Names.{kept_name, draft_name}
use Rattle.archive_keepers.proofs.Apart.{both_drafts, drafts_differ, kept_is_no_draft}
use Rattle.archive_keepers.proofs.drafts.clear_both.Goals as goal

pub returns-in_err-clear_draft-clause-kept : goal.returns-in_err-clear_draft-clause-kept
returns-in_err-clear_draft-clause-kept g c = λ modelled rules.
    c.clear_draft.ensures.others modelled (kept_name rules) (λ is. kept_is_no_draft rules Lynx (is ∙ c.draft_name.ensures))

pub returns-clause-cleared : goal.returns-clause-cleared
returns-clause-cleared g c = λ modelled.
    let stays = c.clear_draft-2.ensures.others modelled (draft_name Lynx) (λ is. drafts_differ (is ∙ c.draft_name-2.ensures)) in
    let gone = subst (λ (name : List ℕ). Only None (g.F.Folder.model.reads c.clear_draft.new.folder name)) c.draft_name.ensures (c.in_ok-clear_draft.ensures.gone modelled) in
    on_ok_weaker c.clear_draft-2.result
    (λ ms. both_drafts (λ (name : List ℕ). Only None (g.F.Folder.model.reads c.clear_draft-2.new.folder name)) (λ read is. gone read (stays.possible.now read is))
    (subst (λ (name : List ℕ). Only None (g.F.Folder.model.reads c.clear_draft-2.new.folder name)) c.draft_name-2.ensures ms)) (c.clear_draft-2.ensures.gone modelled)

pub returns-clause-kept : goal.returns-clause-kept
returns-clause-kept g c = λ modelled rules.
    stays_then (c.clear_draft.ensures.others modelled (kept_name rules) (λ is. kept_is_no_draft rules Lynx (is ∙ c.draft_name.ensures)))
    (c.clear_draft-2.ensures.others modelled (kept_name rules) (λ is. kept_is_no_draft rules Ms (is ∙ c.draft_name-2.ensures)))

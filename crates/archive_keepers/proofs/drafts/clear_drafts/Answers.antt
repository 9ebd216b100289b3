use Rattle.std.proofs.Common.{ℕ, List, Option, None, Some}
use Rattle.std.proofs.lemmas.Result.{on_ok_weaker}
use Rattle.folders.specs.Folder.{FolderModel, Stays, IsSettled}
use Rattle.folders.proofs.Steps.{stays_then}
use Rattle.archive_keepers.specs.Names.{kept_name, draft_name}
use Rattle.archive_keepers.proofs.drafts.clear_drafts.Goals as goal

-- what is settled was so before the calls that left it alone
settled_before : {D : Type 0} (m : FolderModel D) (old mid : D) (name : List ℕ) → Stays m old mid name → (left : Option (List ℕ)) →
    IsSettled (m.reads mid name) (m.holds mid name) left → IsSettled (m.reads old name) (m.holds old name) left
settled_before m old mid name stays None is = stays.possible.now None is
settled_before m old mid name stays (Some text) is = stays.possible.held text is

pub returns-clause-cleared : goal.returns-clause-cleared
returns-clause-cleared g c = λ modelled.
    on_ok_weaker c.sync_folder.result
    (λ settled rules read is. c.in_ok-clear_both.ensures.cleared modelled rules read ((c.sync_folder.ensures.all modelled (draft_name rules)).possible.now read is)) (c.sync_folder.ensures.settled modelled)

pub returns-clause-kept : goal.returns-clause-kept
returns-clause-kept g c = λ modelled rules. stays_then (c.clear_both.ensures.kept modelled rules) (c.sync_folder.ensures.all modelled (kept_name rules))

pub returns-clause-settled : goal.returns-clause-settled
returns-clause-settled g c = λ modelled.
    on_ok_weaker c.sync_folder.result
    (λ settled rules left is. settled_before g.F.Folder.model _ _ (kept_name rules) (c.clear_both.ensures.kept modelled rules) left (settled (kept_name rules) left is)) (c.sync_folder.ensures.settled modelled)

use Rattle.std.proofs.Common.{◌≡◌, [], List, ℕ, Some, Err, ap, ◌∙◌, subst}
use Rattle.std.specs.Prelude.{string_bytes}
use Rattle.folders.specs.Folder.{Only}
use Rattle.folders.proofs.Steps.{stays_then}
use Rattle.archive_history.specs.History.{draft_of}
use Rattle.archive_history.specs.declared.history_fault.HistoryFault.TheVariants.{SyncFolder}
use Rattle.archive_history.proofs.Recording.{on_any_error, recorded_by}
use Rattle.archive_history.proofs.history.record_under.Goals as goal

pub returns-in_err-name-clause-failed : goal.returns-in_err-name-clause-failed
returns-in_err-name-clause-failed g c = λ modelled undoes. on_any_error c.from_residual.result SyncFolder _ ([], λ other nd. c.free_name.ensures.same modelled other)

pub returns-in_err-draft-clause-failed : goal.returns-in_err-draft-clause-failed
returns-in_err-draft-clause-failed g c = λ modelled undoes. on_any_error c.from_residual-in_err-draft.result SyncFolder _ ([], λ other nd. c.free_name.ensures.same modelled other)

pub returns-in-Ok-clause-recorded : goal.returns-in-Ok-clause-recorded
returns-in-Ok-clause-recorded g c = λ modelled.
    let m = g.F.Folder.model in
    let draft-is = c.as_str-2.ensures.value ∙ c.in_ok-draft.ensures ∙ ap draft_of c.as_str.ensures.value in
    let number = c.in_ok-name.ensures.number in
    let has = c.in-Ok.ensures.kept modelled in (
      recorded_by m c.args.stem.now number.0 c.as_str-3.ensures.value draft-is number.1 (c.in_ok-name.ensures.free modelled) (c.free_name.ensures.same modelled) (c.publish_file.ensures.others modelled) has.now,
      subst (λ (name : List ℕ). Only (Some (g.C.Contents.text c.args.text.now)) (m.leaves c.publish_file.new.folder name)) c.as_str-3.ensures.value has.left,
    )

pub returns-in-Err-clause-unsynced : goal.returns-in-Err-clause-unsynced
returns-in-Err-clause-unsynced g c = λ modelled is.
    let same : c.in-Err.fault ≡ SyncFolder = cc in
    let draft-is = c.as_str-2.ensures.value ∙ c.in_ok-draft.ensures ∙ ap draft_of c.as_str.ensures.value in
    let number = c.in_ok-name.ensures.number in (
      string_bytes c.in_ok-name.name,
      recorded_by g.F.Folder.model c.args.stem.now number.0 c.as_str-3.ensures.value draft-is number.1 (c.in_ok-name.ensures.free modelled) (c.free_name.ensures.same modelled)
          (c.publish_file.ensures.others modelled) (c.in-Err.ensures.unsynced modelled (ap Err same)).now,
    )

pub returns-in-Err-clause-failed : goal.returns-in-Err-clause-failed
returns-in-Err-clause-failed g c = λ modelled undoes ne.
    let draft-is = c.as_str-2.ensures.value ∙ c.in_ok-draft.ensures ∙ ap draft_of c.as_str.ensures.value in (
      string_bytes c.in_ok-name.name,
      λ other nd. stays_then (c.free_name.ensures.same modelled other) (c.in-Err.ensures.failed modelled undoes ne other (λ is. nd (is ∙ draft-is))),
    )

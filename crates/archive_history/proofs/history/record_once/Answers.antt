use Rattle.std.proofs.Common.{◌≡◌, Err, ap, ◌∙◌}
use Rattle.folders.proofs.Steps.{stays_then}
use Rattle.archive_history.specs.declared.history_fault.HistoryFault.TheVariants.{NoFreeName, SyncFolder}
use Rattle.archive_history.proofs.Recording.{no_free_name_after, records_by, records_for_good_by}
use Rattle.archive_history.proofs.history.record_once.Goals as goal

pub returns-then-has_copy-clause-known : goal.returns-then-has_copy-clause-known
returns-then-has_copy-clause-known g c = λ modelled is. (c.has_copy.ensures.known modelled c.if-has_copy.true, c.has_copy.ensures.same modelled)

pub returns-in-Ok-clause-recorded : goal.returns-in-Ok-clause-recorded
returns-in-Ok-clause-recorded g c = λ modelled is.
    let recorded = c.in-Ok.ensures.recorded modelled in
    let marks = c.in_ok-marker.ensures in
    records_for_good_by g.F.Folder.model (marks.0, c.as_str-in-Ok.ensures.value ∙ marks.1) (c.has_copy.ensures.same modelled) recorded.0 recorded.1 (c.write_short.ensures.others modelled)

pub returns-clause-unsynced : goal.returns-clause-unsynced
returns-clause-unsynced g c = λ modelled is.
    let same : c.in-Err.fault ≡ SyncFolder = cc in
    records_by g.F.Folder.model c.args.day.now (c.has_copy.ensures.same modelled) (c.in-Err.ensures.unsynced modelled (ap Err same)).1

pub returns-clause-failed : goal.returns-clause-failed
returns-clause-failed g c = λ modelled undoes ne.
    let nothing = c.in-Err.ensures.failed modelled undoes ne in (nothing.0, λ other nd. stays_then (c.has_copy.ensures.same modelled other) (nothing.1 other nd))

pub returns-clause-full : goal.returns-clause-full
returns-clause-full g c = λ modelled is.
    let same : c.in-Err.fault ≡ NoFreeName = cc in
    no_free_name_after g.F.Folder.model c.args.stem.now (c.has_copy.ensures.same modelled) (c.in-Err.ensures.full modelled (ap Err same))

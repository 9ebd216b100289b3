use Rattle.std.proofs.Common.{[], ℕ, List, ◌∙◌, subst}
use Rattle.archive_history.specs.History.{HasCopy, HasNoFreeName, LeavesAll, Records, RecordsForGood}
use Rattle.archive_history.specs.Kept.{without_pads}
use Rattle.archive_history.specs.declared.history_fault.HistoryFault.TheVariants.{SyncFolder}
use Rattle.archive_history.proofs.Recording.{adds_nothing_unless, has_copy_after, no_free_name_after, on_day, records_after, records_for_good_after}
use Rattle.archive_history.proofs.history.record.Goals as goal

pub returns-in-Ok-clause-recorded : goal.returns-in-Ok-clause-recorded
returns-in-Ok-clause-recorded g c = λ modelled is.
    let m = g.F.Folder.model in
    let day-is = c.as_str-in-Ok.ensures.value ∙ c.in_ok-day.ensures in
    let stem-is = c.as_str-in-Ok-2.ensures.value ∙ c.in_ok-stem.ensures in
    on_day (λ (day stem : List ℕ). RecordsForGood m day stem (without_pads c.args.file.now) c.args.folder.now c.record_once.new.folder) day-is stem-is
    (records_for_good_after m c.as_str-in-Ok-2.result.now (c.open_day.ensures.all modelled) (c.record_once.ensures.recorded modelled is))

pub returns-in-Ok-clause-known : goal.returns-in-Ok-clause-known
returns-in-Ok-clause-known g c = λ modelled is.
    let m = g.F.Folder.model in
    let text = without_pads c.args.file.now in
    subst (λ (day : List ℕ). HasCopy m day text c.args.folder.now × LeavesAll m c.args.folder.now c.record_once.new.folder) (c.as_str-in-Ok.ensures.value ∙ c.in_ok-day.ensures)
    (has_copy_after m c.as_str-in-Ok.result.now text (c.open_day.ensures.all modelled) (c.record_once.ensures.known modelled is))

pub returns-in-Ok-clause-unsynced : goal.returns-in-Ok-clause-unsynced
returns-in-Ok-clause-unsynced g c = λ modelled is.
    let m = g.F.Folder.model in
    let day-is = c.as_str-in-Ok.ensures.value ∙ c.in_ok-day.ensures in
    let stem-is = c.as_str-in-Ok-2.ensures.value ∙ c.in_ok-stem.ensures in
    on_day (λ (day stem : List ℕ). Records m day stem (without_pads c.args.file.now) c.args.folder.now c.record_once.new.folder) day-is stem-is
    (records_after m c.as_str-in-Ok-2.result.now (c.open_day.ensures.all modelled) (c.record_once.ensures.unsynced modelled is))

pub returns-in-Ok-clause-failed : goal.returns-in-Ok-clause-failed
returns-in-Ok-clause-failed g c = λ modelled undoes.
    adds_nothing_unless g.F.Folder.model c.record_once.result SyncFolder c.record_once.new.folder (c.open_day.ensures.all modelled) (c.record_once.ensures.failed modelled undoes)

pub returns-in-Ok-clause-full : goal.returns-in-Ok-clause-full
returns-in-Ok-clause-full g c = λ modelled is.
    let m = g.F.Folder.model in
    let stem-is = c.as_str-in-Ok-2.ensures.value ∙ c.in_ok-stem.ensures in
    subst (λ (stem : List ℕ). HasNoFreeName m stem c.args.folder.now) stem-is
    (no_free_name_after m c.as_str-in-Ok-2.result.now (c.open_day.ensures.all modelled) (c.record_once.ensures.full modelled is))

pub returns-clause-failed : goal.returns-clause-failed
returns-clause-failed g c = λ modelled undoes early. ([], λ other nd. c.open_day.ensures.all modelled other)

-- What a record makes of the history.
use Rattle.std.proofs.Common.{◌≡◌, ◌≢◌, ◌⊎◌, inl, inr, ℕ, Bool, true, false, List, [], Option, Some, IsSome, is_some, Result, Ok, Err, IfErr, refl, sym, ◌∙◌, subst}
use Rattle.tws_file.specs.declared.«ruleset».Ruleset.{Ruleset}
use Rattle.tws_file.specs.Fields.{ruleset_in}
use Rattle.tws_file.specs.declared.file_fault.FileFault.{FileFault}
use Rattle.archive_table.specs.Table.{Taken}
use Rattle.archive_table.specs.declared.step_event.Merged.{Merged}
use Rattle.folders.specs.Folder.{FolderModel}
use Rattle.archive_history.specs.declared.history_fault.HistoryFault.{HistoryFault}
use Rattle.archive_history.specs.declared.history_fault.HistoryFault.TheVariants.{Day, NoFreeName, LookUp, Create, Write, Sync, Rename, SyncFolder, Memory}
use Rattle.archive_history.specs.declared.record_outcome.RecordOutcome.{RecordOutcome}
use Rattle.archive_history.specs.declared.record_outcome.RecordOutcome.TheVariants.{Added, Known}
use Rattle.archive_history.specs.History.{AddsNothing, HasCopy, LeavesAll, Records, RecordsForGood, stem_text}
use Rattle.archive_history.specs.Kept.{without_pads}
use Rattle.archive_history.specs.Times.{ShowsMoment, day_of}
use Rattle.archive_log.specs.ServerLog.{IsKnown, KeepsFile, RecordsTaken}

-- a file of which no fault was found
pub readable_by : (fault : Option FileFault) {found : Bool} → found ≡ is_some fault → found ≡ false → IsSome fault → ⊥
readable_by fault is not-found some = let both : false ≡ true = sym not-found ∙ is ∙ some in cc

-- whatever a record returns, it adds the file or nothing
pub keeps_by : {H : Type 0} (m : FolderModel H) (r : Result RecordOutcome HistoryFault) (t : Taken) (merged : Merged) (time : List ℕ) (rules : Ruleset) (stem text : List ℕ) (old new : H) →
    ShowsMoment time → (IsSome merged.fault → ⊥) → ruleset_in t.file ≡ Some rules → stem ≡ stem_text time t.peer rules → text ≡ without_pads t.file →
    (r ≡ Ok Added → RecordsForGood m (day_of time) stem text old new) → (r ≡ Ok Known → HasCopy m (day_of time) text old × LeavesAll m old new) →
    (r ≡ Err SyncFolder → Records m (day_of time) stem text old new) → IfErr r (λ e. e ≢ SyncFolder → AddsNothing m old new) → KeepsFile m t merged (Some old) (Some new)
keeps_by {H} m r t merged time rules stem text old new moment readable rules-is stem-is text-is ok known unsynced failed = record {
  adds = inr (record { before = old; was = refl; after = new; is = refl; adds = by r ok known unsynced failed });
  unreadable = λ faulty. absurd (readable faulty);
}
  where
    added : Records m (day_of time) stem text old new → AddsNothing m old new ⊎ RecordsTaken m t old new
    added records = inr (record {
      time = time;
      moment = moment;
      rules = rules;
      rules_is = rules-is;
      records =
          subst (λ (s : List ℕ). Records m (day_of time) s (without_pads t.file) old new) stem-is
          (subst (λ (x : List ℕ). Records m (day_of time) stem x old new) text-is records);
    })

    by : (r : Result RecordOutcome HistoryFault) → (r ≡ Ok Added → RecordsForGood m (day_of time) stem text old new) → (r ≡ Ok Known → HasCopy m (day_of time) text old × LeavesAll m old new) →
        (r ≡ Err SyncFolder → Records m (day_of time) stem text old new) → IfErr r (λ e. e ≢ SyncFolder → AddsNothing m old new) → AddsNothing m old new ⊎ RecordsTaken m t old new
    by (Ok Added) ok known unsynced failed = added ((ok refl).0, (ok refl).1)
    by (Ok Known) ok known unsynced failed = inl ([], λ other nd. (known refl).1 other)
    by (Err SyncFolder) ok known unsynced failed = added (unsynced refl)
    by (Err Day) ok known unsynced failed = inl (failed (λ e. cc))
    by (Err NoFreeName) ok known unsynced failed = inl (failed (λ e. cc))
    by (Err LookUp) ok known unsynced failed = inl (failed (λ e. cc))
    by (Err Create) ok known unsynced failed = inl (failed (λ e. cc))
    by (Err Write) ok known unsynced failed = inl (failed (λ e. cc))
    by (Err Sync) ok known unsynced failed = inl (failed (λ e. cc))
    by (Err Rename) ok known unsynced failed = inl (failed (λ e. cc))
    by (Err Memory) ok known unsynced failed = inl (failed (λ e. cc))

-- what is known was there
pub known_by : {H : Type 0} (m : FolderModel H) (t : Taken) (time text : List ℕ) (old new : H) → text ≡ without_pads t.file → HasCopy m (day_of time) text old × LeavesAll m old new → IsKnown m time t (Some old) (Some new)
known_by m t time text old new text-is known = record {
  before = old;
  was = refl;
  copy = subst (λ (x : List ℕ). HasCopy m (day_of time) x old) text-is known.0;
  after = new;
  is = refl;
  same = known.1;
}

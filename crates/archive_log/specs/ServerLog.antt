-- What a log and a history make of a step.
use Rattle.std.specs.Prelude.{◌≡◌, ◌⊎◌, ℕ, List, Option, None, Some, IsSome}
use Rattle.tftp_packet.specs.declared.endpoint.Endpoint.{Endpoint}
use Rattle.tws_file.specs.declared.«ruleset».Ruleset.{Ruleset}
use Rattle.tws_file.specs.Fields.{ruleset_in}
use Rattle.archive_table.specs.declared.step_event.Merged.{Merged}
use Rattle.archive_table.specs.declared.step_event.StepEvent.{StepEvent}
use Rattle.archive_table.specs.declared.step_event.StepEvent.TheVariants as did
use Rattle.archive_table.specs.Table.{Taken}
use Rattle.archive_table.specs.Events.{Reported}
use Rattle.folders.specs.Folder.{FolderModel}
use Rattle.archive_history.specs.History.{AddsNothing, HasCopy, LeavesAll, Records, stem_text}
use Rattle.archive_history.specs.Kept.{without_pads}
use Rattle.archive_history.specs.Times.{ShowsMoment, day_of}
use Rattle.archive_log.specs.declared.logged_transfer.LoggedTransfer.{LoggedTransfer}
use Rattle.archive_log.specs.declared.line_budget.LineBudget.{LineBudget}
use Rattle.archive_log.specs.declared.log_event.LogEvent.{LogEvent}
use Rattle.archive_log.specs.Events.{logged_at, event_of, transfers_after, taken_after, served_after}
use Rattle.archive_log.specs.Budget.{after_event, after_events}

-- what a contract sees of a log: what it knows of the live transfers, the folder of its history, how many files were taken
-- and gets finished, and which lines were left out
pub record Logged (H : Type 0) : Type 0 where
  pub transfers : List LoggedTransfer
  pub history : Option H
  pub taken : ℕ
  pub served : ℕ
  pub budget : LineBudget

-- a log after a step at some moment
pub record FollowsStep {H : Type 0} (port : ℕ) (from : Option Endpoint) (step : Reported) (old new : Logged H) : Type 0 where
  pub now : ℕ
  pub transfers : new.transfers ≡ transfers_after now port from step old.transfers
  pub taken : new.taken ≡ taken_after step.event old.taken
  pub served : new.served ≡ served_after step.event old.served
  pub budget : new.budget ≡ after_events now (event_of now (logged_at port old.transfers) from step) old.budget

-- a log after an event at some moment that is no step
pub record FollowsEvent {H : Type 0} (e : LogEvent) (old new : Logged H) : Type 0 where
  pub now : ℕ
  pub is : new ≡ record old { budget = after_event now e old.budget }

-- ---- the history

-- a file that was taken was added without its pads, under a name of some moment, its peer and the ruleset that its fifth byte says
pub record RecordsTaken {H : Type 0} (m : FolderModel H) (t : Taken) (old new : H) : Type 0 where
  pub time : List ℕ
  pub moment : ShowsMoment time
  pub rules : Ruleset
  pub rules_is : ruleset_in t.file ≡ Some rules
  pub records : Records m (day_of time) (stem_text time t.peer rules) (without_pads t.file) old new

-- a history after a file was to be added
pub record Recorded {H : Type 0} (m : FolderModel H) (t : Taken) (old new : Option H) : Type 0 where
  pub before : H
  pub was : old ≡ Some before
  pub after : H
  pub is : new ≡ Some after
  pub adds : AddsNothing m before after ⊎ RecordsTaken m t before after

-- the bytes of a file, without pads, were there from the day of this moment, and nothing was touched
pub record IsKnown {H : Type 0} (m : FolderModel H) (time : List ℕ) (t : Taken) (old new : Option H) : Type 0 where
  pub before : H
  pub was : old ≡ Some before
  pub copy : HasCopy m (day_of time) (without_pads t.file) before
  pub after : H
  pub is : new ≡ Some after
  pub same : LeavesAll m before after

-- No file of the history is changed or removed, but for drafts and markers: at most the file that was taken is added, and only if it is
-- readable, whether or not it improved a collection.
pub record KeepsFile {H : Type 0} (m : FolderModel H) (t : Taken) (merged : Merged) (old new : Option H) : Type 0 where
  pub adds : (new ≡ old) ⊎ Recorded m t old new
  pub unreadable : IsSome merged.fault → new ≡ old

abbrev pub KeepsAs : {H : Type 0} (m : FolderModel H) → StepEvent → Taken → (old new : Option H) → Type 0
KeepsAs m did.Nothing t old new = new ≡ old
KeepsAs m did.OpenedPut t old new = new ≡ old
KeepsAs m (did.OpenedGet rules) t old new = new ≡ old
KeepsAs m (did.Refused why) t old new = new ≡ old
KeepsAs m (did.Taken merged) t old new = KeepsFile m t merged old new
KeepsAs m (did.Finished bytes) t old new = new ≡ old
KeepsAs m (did.Failed block why) t old new = new ≡ old

abbrev pub KeepsTaken : {H : Type 0} (m : FolderModel H) → Option Taken → StepEvent → (old new : Option H) → Type 0
KeepsTaken m None event old new = new ≡ old
KeepsTaken m (Some t) event old new = KeepsAs m event t old new

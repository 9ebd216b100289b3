-- Which event of the log a step of the server is, and what a log has to remember of the transfers to know it.
use Rattle.std.specs.Prelude.{ℕ, ◌+◌, ◌-◌, ◌^◌, ◌==◌, min, nat_lt, Bool, true, false, List, [], ◌∷◌, ◌++◌, length, position, slice_get, remove, Option, None, Some, option_map, option_and_then, if◌then◌else◌}
use Rattle.tftp_packet.specs.declared.endpoint.Endpoint.{Endpoint}
use Rattle.tftp_packet.specs.declared.refusal.Refusal.{Refusal}
use Rattle.tws_file.specs.Fields.{ruleset_in}
use Rattle.archive_table.specs.declared.limits.TheConstants.{LIVE}
use Rattle.archive_table.specs.declared.step_event.FailureCause.{FailureCause}
use Rattle.archive_table.specs.declared.step_event.Merged.{Merged}
use Rattle.archive_table.specs.declared.step_event.StepEvent.{StepEvent}
use Rattle.archive_table.specs.declared.step_event.StepEvent.TheVariants as did
use Rattle.archive_table.specs.Table.{Taken}
use Rattle.archive_table.specs.Events.{Reported}
use Rattle.archive_history.specs.declared.record_outcome.RecordOutcome.{RecordOutcome}
use Rattle.archive_history.specs.declared.record_outcome.RecordOutcome.TheVariants as outcome
use Rattle.archive_log.specs.declared.log_event.LogEvent.{LogEvent}
use Rattle.archive_log.specs.declared.log_event.LogEvent.TheVariants as event
use Rattle.archive_log.specs.declared.logged_transfer.TransferKind.{TransferKind}
use Rattle.archive_log.specs.declared.logged_transfer.TransferKind.TheVariants.{Put, Get}
use Rattle.archive_log.specs.declared.logged_transfer.LoggedTransfer.{LoggedTransfer}
use Rattle.archive_log.specs.declared.upload.Upload.{Upload}

-- ---- a transfer

-- what is said of a file that was taken
abbrev pub upload_of : Taken → Merged → Upload
upload_of t merged = record { peer = t.peer; bytes = length t.file; «ruleset» = ruleset_in t.file; fault = merged.fault; better = merged.better }

abbrev pub finished_by : TransferKind → (now bytes : ℕ) → LoggedTransfer → Option LogEvent
finished_by Put now bytes t = None
finished_by (Get rules) now bytes t = Some (event.GetFinished t.peer rules bytes (now - t.began))

abbrev pub finished_event : (now bytes : ℕ) → LoggedTransfer → Option LogEvent
finished_event now bytes t = finished_by t.kind now bytes t

abbrev pub failed_by : TransferKind → (block : ℕ) → FailureCause → LoggedTransfer → LogEvent
failed_by Put block why t = event.PutFailed t.peer block why
failed_by (Get rules) block why t = event.GetFailed t.peer rules block why

abbrev pub failed_event : (block : ℕ) → FailureCause → LoggedTransfer → LogEvent
failed_event block why t = failed_by t.kind block why t

-- what is said of a file that was to be added to the history
abbrev pub recorded_event : Option RecordOutcome → (peer : Endpoint) → Option LogEvent
recorded_event None peer = None
recorded_event (Some outcome.Added) peer = None
recorded_event (Some outcome.Known) peer = Some (event.AlreadyRecorded peer)

-- ---- the transfers

-- the index of the transfer at a port
abbrev pub place_of : (port : ℕ) → List LoggedTransfer → Option ℕ
place_of port ts = position (λ t. t.port == port) ts

abbrev pub logged_at : (port : ℕ) → List LoggedTransfer → Option LoggedTransfer
logged_at port ts = option_and_then (λ i. slice_get ts i) (place_of port ts)

abbrev pub removed_at : Option ℕ → List LoggedTransfer → List LoggedTransfer
removed_at None ts = ts
removed_at (Some i) ts = remove ts i

abbrev pub without : (port : ℕ) → List LoggedTransfer → List LoggedTransfer
without port ts = removed_at (place_of port ts) ts

-- A transfer takes the place of one at its port. One for which there is no room is forgotten.
abbrev pub opened_in : LoggedTransfer → List LoggedTransfer → List LoggedTransfer
opened_in t ts = let rest = without t.port ts in if nat_lt (length rest) LIVE then rest ++ t ∷ [] else rest

-- a transfer with a peer that is known
abbrev pub opened_for : (now port : ℕ) → (peer : Option Endpoint) → TransferKind → List LoggedTransfer → List LoggedTransfer
opened_for now port None kind ts = ts
opened_for now port (Some peer) kind ts = opened_in (record { port = port; peer = peer; began = now; kind = kind }) ts

-- ---- the steps

abbrev pub refused_event : (from : Option Endpoint) → Refusal → Option LogEvent
refused_event from why = option_map (λ peer. event.Refused peer why) from

abbrev pub millis_since : (now : ℕ) → Option LoggedTransfer → ℕ
millis_since now None = 0
millis_since now (Some t) = now - t.began

abbrev pub taken_event : (now : ℕ) → Option LoggedTransfer → Option Taken → Merged → Option LogEvent
taken_event now transfer None merged = None
taken_event now transfer (Some t) merged = Some (event.Taken (upload_of t merged) (millis_since now transfer))

abbrev pub event_by : StepEvent → (now : ℕ) → Option LoggedTransfer → (from : Option Endpoint) → Option Taken → Option LogEvent
event_by did.Nothing now transfer from taken = None
event_by did.OpenedPut now transfer from taken = None
event_by (did.OpenedGet rules) now transfer from taken = None
event_by (did.Refused why) now transfer from taken = refused_event from why
event_by (did.Taken merged) now transfer from taken = taken_event now transfer taken merged
event_by (did.Finished bytes) now transfer from taken = option_and_then (finished_event now bytes) transfer
event_by (did.Failed block why) now transfer from taken = option_map (failed_event block why) transfer

-- Which event a step is. `transfer` is that of its port, and `from` the sender of its datagram.
abbrev pub event_of : (now : ℕ) → (transfer : Option LoggedTransfer) → (from : Option Endpoint) → Reported → Option LogEvent
event_of now transfer from step = event_by step.event now transfer from step.taken

abbrev pub without_if : (closed : Bool) → (port : ℕ) → List LoggedTransfer → List LoggedTransfer
without_if true port ts = without port ts
without_if false port ts = ts

abbrev pub transfers_by : StepEvent → (now port : ℕ) → (from : Option Endpoint) → (closed : Bool) → List LoggedTransfer → List LoggedTransfer
transfers_by did.Nothing now port from closed ts = without_if closed port ts
transfers_by did.OpenedPut now port from closed ts = opened_for now port from Put ts
transfers_by (did.OpenedGet rules) now port from closed ts = opened_for now port from (Get rules) ts
transfers_by (did.Refused why) now port from closed ts = without_if closed port ts
transfers_by (did.Taken merged) now port from closed ts = without_if closed port ts
transfers_by (did.Finished bytes) now port from closed ts = without_if closed port ts
transfers_by (did.Failed block why) now port from closed ts = without_if closed port ts

-- the transfers after a step
abbrev pub transfers_after : (now port : ℕ) → (from : Option Endpoint) → Reported → List LoggedTransfer → List LoggedTransfer
transfers_after now port from step ts = transfers_by step.event now port from step.closed ts

-- ---- what the last line counts

-- one more, saturating
abbrev pub one_more : ℕ → ℕ
one_more n = min (n + 1) (2 ^ 64 - 1)

-- the files that were taken
abbrev pub taken_after : StepEvent → (taken : ℕ) → ℕ
taken_after did.Nothing taken = taken
taken_after did.OpenedPut taken = taken
taken_after (did.OpenedGet rules) taken = taken
taken_after (did.Refused why) taken = taken
taken_after (did.Taken merged) taken = one_more taken
taken_after (did.Finished bytes) taken = taken
taken_after (did.Failed block why) taken = taken

-- the gets that were finished
abbrev pub served_after : StepEvent → (served : ℕ) → ℕ
served_after did.Nothing served = served
served_after did.OpenedPut served = served
served_after (did.OpenedGet rules) served = served
served_after (did.Refused why) served = served
served_after (did.Taken merged) served = served
served_after (did.Finished bytes) served = one_more served
served_after (did.Failed block why) served = served

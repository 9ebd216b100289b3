-- The lines of the log: one for each event.
use Rattle.std.specs.Prelude.{ℕ, List, [], ◌∷◌, ◌++◌, Option, None, Some, option_map, codes, decimal}
use Rattle.std.specs.Int.{w32, to_be_bytes}
use Rattle.std.specs.Net.Text.{ipv4_text}
use Rattle.log.specs.declared.level.Level.{Level}
use Rattle.log.specs.declared.level.Level.TheVariants as level
use Rattle.log.specs.Kv.{Pair}
use Rattle.log.specs.Line.{header_text, pairs_text}
use Rattle.tftp_packet.specs.declared.endpoint.Endpoint.{Endpoint}
use Rattle.tftp_packet.specs.declared.refusal.Refusal.TheVariants as refusal
use Rattle.tftp_packet.specs.Refusal.{refusal_text}
use Rattle.tws_file.specs.declared.«ruleset».Ruleset.{Ruleset}
use Rattle.tws_file.specs.declared.file_fault.FileFault.{FileFault}
use Rattle.tws_file.specs.declared.file_fault.FileFault.TheVariants as fault
use Rattle.tws_file.specs.Words.{ruleset_name}
use Rattle.archive_server.specs.declared.drop_cause.DropCause.{DropCause}
use Rattle.archive_server.specs.declared.drop_cause.DropCause.TheVariants.{ManyTransfers, LargeCollection, NotPutter}
use Rattle.archive_table.specs.declared.step_event.FailureCause.{FailureCause}
use Rattle.archive_table.specs.declared.step_event.FailureCause.TheVariants.{Refused, PeerError, TimedOut}
use Rattle.byte_output.specs.Printable.{shown}
use Rattle.archive_history.specs.declared.history_fault.HistoryFault.{HistoryFault}
use Rattle.archive_history.specs.HistoryFault.{history_fault_text}
use Rattle.archive_log.specs.declared.log_event.LogEvent.{LogEvent}
use Rattle.archive_log.specs.declared.log_event.LogEvent.TheVariants as event

-- ---- values

-- `127.0.0.1:5000`
abbrev pub peer_text : Endpoint → List ℕ
peer_text e = ipv4_text (to_be_bytes w32 e.host) ++ codes ":" ++ decimal e.port

abbrev pub ruleset_text : Option Ruleset → List ℕ
ruleset_text None = codes "none"
ruleset_text (Some rules) = ruleset_name rules

-- the name of a file's fault
abbrev pub fault_text : Option FileFault → List ℕ
fault_text None = codes "none"
fault_text (Some (fault.ShortHeader n)) = codes "ShortHeader"
fault_text (Some fault.BadSignature) = codes "BadSignature"
fault_text (Some (fault.BadRuleset n)) = codes "BadRuleset"
fault_text (Some (fault.ShortRecord n)) = codes "ShortRecord"
fault_text (Some (fault.BadSize n)) = codes "BadSize"
fault_text (Some (fault.MoveCut n)) = codes "MoveCut"
fault_text (Some fault.Memory) = codes "Memory"

abbrev pub cause_text : FailureCause → List ℕ
cause_text (Refused why) = shown (refusal_text why)
cause_text PeerError = codes "error from the peer"
cause_text TimedOut = codes "timed out"

-- why a file is not in the history, with the words of the system if they are known
abbrev pub lost_text : HistoryFault → Option (List ℕ) → List ℕ
lost_text why None = history_fault_text why
lost_text why (Some cause) = history_fault_text why ++ (codes ": " ++ shown cause)

-- why a request was dropped
abbrev pub drop_text : DropCause → List ℕ
drop_text ManyTransfers = codes "too many transfers of its host"
drop_text LargeCollection = codes "too many transfers of so large a collection"
drop_text NotPutter = codes "not allowed to put"

-- ---- lines

abbrev pub message_of : LogEvent → List ℕ
message_of (event.Started at lynx ms folder) = codes "started"
message_of (event.Refused peer why) = codes "request refused"
message_of (event.Dropped peer why) = codes "request dropped"
message_of (event.LeftOut count) = codes "request lines left out"
message_of (event.Taken upload millis) = codes "put taken"
message_of (event.PutFailed peer block why) = codes "put failed"
message_of (event.GetFailed peer rules block why) = codes "get failed"
message_of (event.GetFinished peer rules bytes millis) = codes "get finished"
message_of (event.KeepFailed rules bytes why) = codes "keep failed"
message_of (event.AlreadyRecorded peer) = codes "already recorded"
message_of (event.NotRecorded peer why cause) = codes "not recorded"
message_of (event.Stopped taken served) = codes "stopped"

-- a put that failed, and one whose file is unreadable
abbrev pub failed_level : FailureCause → Level
failed_level (Refused refusal.NotKept) = level.Error
failed_level _ = level.Warn

abbrev pub taken_level : Option FileFault → Level
taken_level None = level.Info
taken_level (Some e) = level.Warn

abbrev pub level_of : LogEvent → Level
level_of (event.Started at lynx ms folder) = level.Info
level_of (event.Refused peer why) = level.Warn
level_of (event.Dropped peer why) = level.Warn
level_of (event.LeftOut count) = level.Warn
level_of (event.Taken upload millis) = taken_level upload.fault
level_of (event.PutFailed peer block why) = failed_level why
level_of (event.GetFailed peer rules block why) = level.Warn
level_of (event.GetFinished peer rules bytes millis) = level.Info
level_of (event.KeepFailed rules bytes why) = level.Error
level_of (event.AlreadyRecorded peer) = level.Info
level_of (event.NotRecorded peer why cause) = level.Error
level_of (event.Stopped taken served) = level.Info

-- the folder stands last, as its name may have any length and spaces
abbrev pub folder_pairs : Option (List ℕ) → List Pair
folder_pairs None = []
folder_pairs (Some folder) = (codes "folder", shown folder) ∷ []

abbrev pub pairs_of : LogEvent → List Pair
pairs_of (event.Started at lynx ms folder) =
    (codes "at", peer_text at) ∷ (codes "lynx", decimal lynx) ∷ (codes "ms", decimal ms) ∷ folder_pairs (option_map (λ f. f.now) folder)
pairs_of (event.Refused peer why) = (codes "peer", peer_text peer) ∷ (codes "why", shown (refusal_text why)) ∷ []
pairs_of (event.Dropped peer why) = (codes "peer", peer_text peer) ∷ (codes "why", drop_text why) ∷ []
pairs_of (event.LeftOut count) = (codes "count", decimal count) ∷ []
pairs_of (event.Taken upload millis) =
    (codes "peer", peer_text upload.peer) ∷ (codes "bytes", decimal upload.bytes) ∷ (codes "ruleset", ruleset_text upload.«ruleset»)
    ∷ (codes "fault", fault_text upload.fault) ∷ (codes "better", decimal upload.better) ∷ (codes "millis", decimal millis) ∷ []
pairs_of (event.PutFailed peer block why) =
    (codes "peer", peer_text peer) ∷ (codes "block", decimal block) ∷ (codes "why", cause_text why) ∷ []
pairs_of (event.GetFailed peer rules block why) =
    (codes "peer", peer_text peer) ∷ (codes "ruleset", ruleset_name rules) ∷ (codes "block", decimal block) ∷ (codes "why", cause_text why) ∷ []
pairs_of (event.GetFinished peer rules bytes millis) =
    (codes "peer", peer_text peer) ∷ (codes "ruleset", ruleset_name rules) ∷ (codes "bytes", decimal bytes) ∷ (codes "millis", decimal millis) ∷ []
pairs_of (event.KeepFailed rules bytes why) =
    (codes "ruleset", ruleset_name rules) ∷ (codes "bytes", decimal bytes) ∷ (codes "why", shown why.now) ∷ []
pairs_of (event.AlreadyRecorded peer) = (codes "peer", peer_text peer) ∷ []
pairs_of (event.NotRecorded peer why cause) =
    (codes "peer", peer_text peer) ∷ (codes "why", lost_text why (option_map (λ c. c.now) cause)) ∷ []
pairs_of (event.Stopped taken served) = (codes "taken", decimal taken) ∷ (codes "served", decimal served) ∷ []

abbrev pub timed_pairs : (time : List ℕ) → LogEvent → List Pair
timed_pairs time event = (codes "time", time) ∷ pairs_of event

-- `[INFO  tws] put taken time=2026-11-27T09:15:00.123Z peer=127.0.0.1:5000 ..`
abbrev pub line_of : (time : List ℕ) → LogEvent → List ℕ
line_of time event = header_text (level_of event) (codes "tws") ++ message_of event ++ pairs_text (timed_pairs time event)

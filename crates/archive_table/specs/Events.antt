-- What a step did, beside what it answers. `Reported` is what a call returns; the step that it `made` is the step of the
-- definitions in `Table`.
use Rattle.std.specs.Prelude.{◌≡◌, ◌↔◌, ℕ, Bool, true, false, List, length, Option, None, Some, Result, Ok, Err}
use Rattle.tftp_packet.specs.declared.endpoint.Endpoint.{Endpoint}
use Rattle.tftp_packet.specs.declared.out.Out.{Out}
use Rattle.tftp_packet.specs.declared.packet_fault.PacketFault.{PacketFault}
use Rattle.tftp_packet.specs.declared.refusal.Refusal.{Refusal}
use Rattle.tftp_packet.specs.declared.refusal.Refusal.TheVariants.{OutOfMemory}
use Rattle.tftp_packet.specs.Packet.{Packet, read, write, data_block, ack, error}
use Rattle.tftp_ends.specs.Input.{Input, nothing, stray, refusal, acked, block, input_of_packet}
use Rattle.tws_file.specs.declared.file_fault.FileFault.{FileFault}
use Rattle.tws_file.specs.declared.«ruleset».Ruleset.{Ruleset}
use Rattle.tws_file.specs.Fault.{HasFileFault}
use Rattle.tws_file.specs.Names.{ruleset_named}
use Rattle.tws_file.specs.Text.{IsReadable}
use Rattle.archive_table.specs.declared.step_event.FailureCause.{FailureCause}
use Rattle.archive_table.specs.declared.step_event.FailureCause.TheVariants as cause
use Rattle.archive_table.specs.declared.step_event.Merged.{Merged}
use Rattle.archive_table.specs.declared.step_event.StepEvent.{StepEvent}
use Rattle.archive_table.specs.declared.step_event.StepEvent.TheVariants.{Nothing, OpenedPut, OpenedGet, Refused, Taken, Finished, Failed}
use Rattle.archive_table.specs.Table.{Step, Taken as Took, End, sending, receiving, Transfer, Maps, is_done, is_same, refusal_dgram, transfer_input}

pub record Reported : Type 0 where
  pub out : Option Out
  pub opened : Bool
  pub taken : Option Took
  pub closed : Bool
  pub event : StepEvent

abbrev pub made : Reported → Step
made r = record { out = r.out; opened = r.opened; taken = r.taken; closed = r.closed }

-- a step, and what it did
abbrev pub reported : Step → StepEvent → Reported
reported s event = record { out = s.out; opened = s.opened; taken = s.taken; closed = s.closed; event = event }

-- ---- a request

-- the ERROR that was sent, if one was
abbrev pub IsRefusedEvent : Option Out → StepEvent → Type 0
IsRefusedEvent None event = event ≡ Nothing
IsRefusedEvent (Some out) event = (why : Refusal) × (event ≡ Refused why) × (out.dgram ≡ refusal_dgram why)

-- what was opened
abbrev pub IsOpenedEvent : Result Packet PacketFault → StepEvent → Type 0
IsOpenedEvent (Ok (read name mode)) event = (rules : Ruleset) × (ruleset_named name ≡ Some rules) × (event ≡ OpenedGet rules)
IsOpenedEvent (Ok (write name mode)) event = event ≡ OpenedPut
IsOpenedEvent (Ok (data_block n body)) event = ⊥
IsOpenedEvent (Ok (ack n)) event = ⊥
IsOpenedEvent (Ok (error code text)) event = ⊥
IsOpenedEvent (Err e) event = ⊥

abbrev pub IsRequestEvent : (opened : Bool) → Result Packet PacketFault → Option Out → StepEvent → Type 0
IsRequestEvent true decoded out event = IsOpenedEvent decoded event
IsRequestEvent false decoded out event = IsRefusedEvent out event

-- a request for the collection of this ruleset
abbrev pub IsNamedEvent : (opened : Bool) → Ruleset → Option Out → StepEvent → Type 0
IsNamedEvent true rules out event = event ≡ OpenedGet rules
IsNamedEvent false rules out event = IsRefusedEvent out event

-- a request that was granted, if there was memory for it
abbrev pub opened_or_refused : (opened : Bool) → StepEvent → StepEvent
opened_or_refused true event = event
opened_or_refused false event = Refused OutOfMemory

-- ---- a transfer

-- the last block that an end sent or received
abbrev pub block_of : End → ℕ
block_of (sending s) = s.current
block_of (receiving r) = r.count

-- A transfer that ends for this reason has failed, unless it has its whole file.
abbrev pub failed_unless : (done : Bool) → (number : ℕ) → FailureCause → StepEvent
failed_unless true number why = Nothing
failed_unless false number why = Failed number why

abbrev pub broken_by : FailureCause → End → StepEvent
broken_by why end = failed_unless (is_done end) (block_of end) why

-- an ACK that ends the transfer is that of the last block
abbrev pub finished_by : End → StepEvent
finished_by (sending s) = Finished (length s.file)
finished_by (receiving r) = Nothing

abbrev pub acked_event : (closed : Bool) → End → StepEvent
acked_event true end = finished_by end
acked_event false end = Nothing

-- a datagram of these bytes is sent
abbrev pub SendsDgram : Option Out → (dgram : List ℕ) → Type 0
SendsDgram None dgram = ⊥
SendsDgram (Some out) dgram = out.dgram ≡ dgram

-- a block was refused with this ERROR, or the file that it completed
pub record FailsBy (end : End) (out : Option Out) (event : StepEvent) : Type 0 where
  pub why : Refusal
  pub is : event ≡ Failed (block_of end) (cause.Refused why)
  pub sent : SendsDgram out (refusal_dgram why)

-- the fault of bytes, none if they are a solution file
abbrev pub IsFaultOf : (bytes : List ℕ) → Option FileFault → Type 0
IsFaultOf bytes None = IsReadable bytes
IsFaultOf bytes (Some fault) = HasFileFault bytes fault

-- a file was taken, which improved a collection if any of its solutions was better
pub record TakesAs (file : List ℕ) (old new : Maps) (event : StepEvent) : Type 0 where
  pub merged : Merged
  pub is : event ≡ Taken merged
  pub fault : IsFaultOf file merged.fault
  pub better : (merged.better ≡ 0) ↔ (new ≡ old)

abbrev pub IsDataEvent : Option Took → (closed : Bool) → End → (old new : Maps) → Option Out → StepEvent → Type 0
IsDataEvent (Some t) closed end old new out event = TakesAs t.file old new event
IsDataEvent None true end old new out event = FailsBy end out event
IsDataEvent None false end old new out event = event ≡ Nothing

-- by what the datagram means to the transfer
abbrev pub IsInputEvent : Input → End → (old new : Maps) → Step → StepEvent → Type 0
IsInputEvent nothing end old new step event = event ≡ Nothing
IsInputEvent stray end old new step event = event ≡ Nothing
IsInputEvent (refusal code) end old new step event = event ≡ broken_by cause.PeerError end
IsInputEvent (acked n) end old new step event = event ≡ acked_event step.closed end
IsInputEvent (block n body) end old new step event = IsDataEvent step.taken step.closed end old new step.out event

-- a packet at a port, if that is live
abbrev pub IsPacketEvent : Option Transfer → (from : Endpoint) → Packet → (old new : Maps) → Step → StepEvent → Type 0
IsPacketEvent (Some t) from packet old new step event = IsInputEvent (input_of_packet (is_same from t.peer) packet) t.end old new step event
IsPacketEvent None from packet old new step event = event ≡ Nothing

-- a datagram of these bytes at a port
abbrev pub IsDatagramEvent : Option Transfer → (from : Endpoint) → (bytes : List ℕ) → (old new : Maps) → Step → StepEvent → Type 0
IsDatagramEvent (Some t) from bytes old new step event = IsInputEvent (transfer_input t.peer from bytes) t.end old new step event
IsDatagramEvent None from bytes old new step event = event ≡ Nothing

abbrev pub ended_event : (closed : Bool) → End → StepEvent
ended_event true end = broken_by cause.TimedOut end
ended_event false end = Nothing

-- a time-out
abbrev pub timeout_event : Option Transfer → (closed : Bool) → StepEvent
timeout_event (Some t) closed = ended_event closed t.end
timeout_event None closed = Nothing

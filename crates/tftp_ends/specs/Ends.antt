-- The two ends of one transfer: what each keeps, and the effect of each call. RFC 1350 section 2, with RFC 1123 section
-- 4.2.3.1: a repeated ACK never makes the sender send its current DATA again. docs/FORMATS.md has the same as tables.
use Rattle.std.specs.Prelude.{◌≡◌, ℕ, ◌+◌, ◌*◌, ◌<◌, ◌≤◌, Bool, true, false, ◌==◌, ◌&&◌, nat_lt, List, [], ◌++◌, length, Option, None, Some, IsSome, IfSome, Result, Ok, Err}
use Rattle.std.specs.Option.{option_map}
use Rattle.tftp_packet.specs.declared.sizes.TheConstants.{BLOCK_SIZE}
use Rattle.tftp_packet.specs.declared.refusal.Refusal.{Refusal}
use Rattle.tftp_packet.specs.declared.refusal.Refusal.TheVariants.{OutOfMemory, FileTooLong}
use Rattle.tftp_packet.specs.Packet.{Packet, data_block, ack, encode}
use Rattle.tftp_packet.specs.Blocks.{block_count, block_of, first_blocks}
use Rattle.tftp_ends.specs.declared.limits.TheConstants.{MAX_BLOCKS, MAX_FILE, MISSES, DALLY}
use Rattle.tftp_ends.specs.declared.send_state.SendState.{SendState}
use Rattle.tftp_ends.specs.declared.send_state.SendState.TheVariants as sending
use Rattle.tftp_ends.specs.declared.recv_state.RecvState.{RecvState}
use Rattle.tftp_ends.specs.declared.recv_state.RecvState.TheVariants as receiving
use Rattle.tftp_ends.specs.declared.recv_fault.RecvFault.{RecvFault}
use Rattle.tftp_ends.specs.declared.recv_fault.RecvFault.TheVariants as fault

-- whether an allocation that a step makes is granted; if it makes none, this has no effect
pub data Verdict : Type 0 where
  granted : Verdict
  refused : Verdict

-- the bytes of a packet that is sent
abbrev pub dgram_of : Option Packet → Option (List ℕ)
dgram_of out = option_map encode out

-- ---- the sender

pub record Sender : Type 0 where
  -- the file that it sends
  pub file : List ℕ
  -- the number of its current block: the one that it sent last
  pub current : ℕ
  -- time-outs in a row without progress
  pub misses : ℕ
  pub state : SendState

-- the sender after a call, and the packet that it sends
pub record SendAnswer : Type 0 where
  pub sender : Sender
  pub out : Option Packet

abbrev pub sender_answer : (file : List ℕ) (current misses : ℕ) → SendState → Option Packet → SendAnswer
sender_answer file current misses state out =
    record { sender = record { file = file; current = current; misses = misses; state = state }; out = out }

-- the DATA for a block of the file
abbrev pub data_packet : (file : List ℕ) (block : ℕ) → Packet
data_packet file block = data_block block (block_of file block)

abbrev pub sender_stays : Sender → SendAnswer
sender_stays s = record { sender = s; out = None }

-- it begins with block 1, which it has sent
abbrev pub sender_start : (file : List ℕ) → Sender
sender_start file = record { file = file; current = 1; misses = 0; state = sending.Running }

-- the current block was acknowledged: whether it is the last
abbrev pub sender_goes_on : (last : Bool) → Sender → SendAnswer
sender_goes_on true s = sender_answer s.file s.current s.misses sending.Finished None
sender_goes_on false s = sender_answer s.file (s.current + 1) 0 sending.Running (Some (data_packet s.file (s.current + 1)))

-- an ACK: whether it is that of the current block
abbrev pub sender_acked : (current : Bool) → Sender → SendAnswer
sender_acked true s = sender_goes_on (s.current == block_count s.file) s
sender_acked false s = sender_stays s

abbrev pub sender_ack_in : SendState → (n : ℕ) → Sender → SendAnswer
sender_ack_in sending.Running n s = sender_acked (n == s.current) s
sender_ack_in sending.Finished n s = sender_stays s
sender_ack_in sending.TimedOut n s = sender_stays s

-- ACK n is received
abbrev pub sender_ack : (n : ℕ) → Sender → SendAnswer
sender_ack n s = sender_ack_in s.state n s

-- a time-out: whether it is one too many
abbrev pub sender_missed : (last : Bool) → Sender → SendAnswer
sender_missed true s = sender_answer s.file s.current s.misses sending.TimedOut None
sender_missed false s = sender_answer s.file s.current (s.misses + 1) sending.Running (Some (data_packet s.file s.current))

abbrev pub sender_timeout_in : SendState → Sender → SendAnswer
sender_timeout_in sending.Running s = sender_missed (s.misses + 1 == MISSES) s
sender_timeout_in sending.Finished s = sender_stays s
sender_timeout_in sending.TimedOut s = sender_stays s

-- a time-out of the sender
abbrev pub sender_timeout : Sender → SendAnswer
sender_timeout s = sender_timeout_in s.state s

-- ---- the receiver

pub record Receiver : Type 0 where
  -- how many blocks it has: blocks 1 to this one
  pub count : ℕ
  -- the bytes of these blocks; `None` once the file is taken out
  pub file : Option (List ℕ)
  -- time-outs in a row without progress
  pub misses : ℕ
  pub state : RecvState

-- the receiver after a call, and the packet that it sends
pub record RecvAnswer : Type 0 where
  pub receiver : Receiver
  pub out : Option Packet

-- the receiver after a DATA, and the packet that it sends or the fault
pub record DataAnswer : Type 0 where
  pub receiver : Receiver
  pub result : Result (Option Packet) RecvFault

abbrev pub receiver_start : Receiver
receiver_start = record { count = 0; file = Some []; misses = 0; state = receiving.Running }

-- ---- DATA

-- the error sent to a peer whose block was not taken
abbrev pub refusal_of : RecvFault → Refusal
refusal_of fault.Memory = OutOfMemory
refusal_of fault.TooLong = FileTooLong

abbrev pub receiver_appends : Option (List ℕ) → (body : List ℕ) → Option (List ℕ)
receiver_appends None body = None
receiver_appends (Some bytes) body = Some (bytes ++ body)

-- a full block is not the last one
abbrev pub state_after : (full : Bool) → RecvState
state_after true = receiving.Running
state_after false = receiving.Complete

-- the next block, if it is not one too many
abbrev pub receiver_takes : Verdict → (body : List ℕ) → Receiver → DataAnswer
receiver_takes granted body r =
    record {
      receiver = record { count = r.count + 1; file = receiver_appends r.file body; misses = 0; state = state_after (length body == BLOCK_SIZE) };
      result = Ok (Some (ack (r.count + 1)));
    }
receiver_takes refused body r = record { receiver = r; result = Err fault.Memory }

-- the next block: whether it is one too many
abbrev pub receiver_next : (past : Bool) → Verdict → (body : List ℕ) → Receiver → DataAnswer
receiver_next true verdict body r = record { receiver = r; result = Err fault.TooLong }
receiver_next false verdict body r = receiver_takes verdict body r

-- a block other than the next one: whether it is the last one received
abbrev pub receiver_again : (last : Bool) → Receiver → DataAnswer
receiver_again true r = record { receiver = r; result = Ok (Some (ack r.count)) }
receiver_again false r = record { receiver = r; result = Ok None }

-- there is no block 0, though a receiver begins with 0 blocks
abbrev pub is_last_come : (n : ℕ) → Receiver → Bool
is_last_come n r = nat_lt 0 n && (n == r.count)

-- a file cannot go on after block MAX_BLOCKS
abbrev pub is_past : (n : ℕ) (body : List ℕ) → Bool
is_past n body = (n == MAX_BLOCKS) && (length body == BLOCK_SIZE)

abbrev pub receiver_running : (next : Bool) → Verdict → (n : ℕ) (body : List ℕ) → Receiver → DataAnswer
receiver_running true verdict n body r = receiver_next (is_past n body) verdict body r
receiver_running false verdict n body r = receiver_again (is_last_come n r) r

abbrev pub receiver_data_in : RecvState → Verdict → (n : ℕ) (body : List ℕ) → Receiver → DataAnswer
receiver_data_in receiving.Running verdict n body r = receiver_running (n == r.count + 1) verdict n body r
receiver_data_in receiving.Complete verdict n body r = receiver_again (is_last_come n r) r
receiver_data_in receiving.TimedOut verdict n body r = record { receiver = r; result = Ok None }
receiver_data_in receiving.Over verdict n body r = record { receiver = r; result = Ok None }

-- DATA n with this body is received
abbrev pub receiver_data : Verdict → (n : ℕ) (body : List ℕ) → Receiver → DataAnswer
receiver_data verdict n body r = receiver_data_in r.state verdict n body r

-- ---- time-outs

abbrev pub receiver_waits : (misses : ℕ) → RecvState → Option Packet → Receiver → RecvAnswer
receiver_waits misses state out r =
    record { receiver = record { count = r.count; file = r.file; misses = misses; state = state }; out = out }

-- while blocks are missing: whether this time-out is one too many
abbrev pub receiver_missed : (last : Bool) → Receiver → RecvAnswer
receiver_missed true r = receiver_waits r.misses receiving.TimedOut None r
receiver_missed false r = receiver_waits (r.misses + 1) receiving.Running (Some (ack r.count)) r

-- after the last block: whether it has dallied long enough for a repeated one
abbrev pub receiver_dallied : (last : Bool) → Receiver → RecvAnswer
receiver_dallied true r = receiver_waits r.misses receiving.Over None r
receiver_dallied false r = receiver_waits (r.misses + 1) receiving.Complete None r

abbrev pub receiver_timeout_in : RecvState → Receiver → RecvAnswer
receiver_timeout_in receiving.Running r = receiver_missed (r.misses + 1 == MISSES) r
receiver_timeout_in receiving.Complete r = receiver_dallied (r.misses + 1 == DALLY) r
receiver_timeout_in receiving.TimedOut r = record { receiver = r; out = None }
receiver_timeout_in receiving.Over r = record { receiver = r; out = None }

-- a time-out of the receiver
abbrev pub receiver_timeout : Receiver → RecvAnswer
receiver_timeout r = receiver_timeout_in r.state r

-- ---- the file

-- the receiver after a request for its file, and the file, if it is handed out
pub record TakeAnswer : Type 0 where
  pub receiver : Receiver
  pub file : Option (List ℕ)

abbrev pub receiver_gives : Receiver → TakeAnswer
receiver_gives r =
    record { receiver = record { count = r.count; file = None; misses = r.misses; state = r.state }; file = r.file }

abbrev pub receiver_take_in : RecvState → Receiver → TakeAnswer
receiver_take_in receiving.Running r = record { receiver = r; file = None }
receiver_take_in receiving.Complete r = receiver_gives r
receiver_take_in receiving.TimedOut r = record { receiver = r; file = None }
receiver_take_in receiving.Over r = receiver_gives r

-- the whole file is handed out once
abbrev pub receiver_take : Receiver → TakeAnswer
receiver_take r = receiver_take_in r.state r

-- ---- what a receiver has of a file

-- it has the whole file
abbrev pub IsEnded : RecvState → Type 0
IsEnded receiving.Running = ⊥
IsEnded receiving.Complete = Unit {0}
IsEnded receiving.TimedOut = ⊥
IsEnded receiving.Over = Unit {0}

-- its bytes are the first blocks of this file, as many as it counts
abbrev pub HoldsFirst : (file : List ℕ) → Receiver → Type 0
HoldsFirst file r = r.file ≡ Some (first_blocks file r.count)

-- ---- answers as the calls return them

-- what the receiver sends for a DATA; nothing if it returns a fault
abbrev pub sent_of : Result (Option Packet) RecvFault → Option Packet
sent_of (Ok out) = out
sent_of (Err e) = None

abbrev pub answer_of : Result (Option Packet) RecvFault → Result (Option (List ℕ)) RecvFault
answer_of (Ok out) = Ok (dgram_of out)
answer_of (Err e) = Err e

-- whether allocations were granted, by the fault
abbrev pub verdict_at : RecvFault → Verdict
verdict_at fault.Memory = refused
verdict_at fault.TooLong = granted

-- whether allocations were granted, by a call's result
abbrev pub verdict_of : {T : Type 0} → Result T RecvFault → Verdict
verdict_of (Ok out) = granted
verdict_of (Err e) = verdict_at e

-- ---- what always holds

pub record IsSender (s : Sender) : Type 0 where
  pub size : length s.file ≤ MAX_FILE
  pub counted : 1 ≤ s.current
  pub within : s.current ≤ block_count s.file
  pub patient : s.misses < MISSES

-- the length of the bytes, by the state
abbrev pub HasReceivedSize : RecvState → (count : ℕ) (bytes : List ℕ) → Type 0
HasReceivedSize receiving.Running count bytes = length bytes ≡ BLOCK_SIZE * count
HasReceivedSize receiving.Complete count bytes = count ≡ block_count bytes
HasReceivedSize receiving.TimedOut count bytes = length bytes ≡ BLOCK_SIZE * count
HasReceivedSize receiving.Over count bytes = count ≡ block_count bytes

pub record IsReceiver (r : Receiver) : Type 0 where
  pub size : IfSome r.file (HasReceivedSize r.state r.count)
  -- before the last block the file is present, and can grow
  pub held : r.state ≡ receiving.Running → IsSome r.file
  pub room : r.state ≡ receiving.Running → r.count < MAX_BLOCKS
  pub within : r.count ≤ MAX_BLOCKS
  pub patient : r.misses < MISSES
  pub dally : r.state ≡ receiving.Complete → r.misses < DALLY

-- One sender, one receiver and the network between them, over every list of deliveries and time-outs.
use Rattle.std.specs.Prelude.{◌≡◌, ◌⊎◌, ℕ, ◌+◌, Bool, true, false, List, [], ◌∷◌, ◌++◌, count_by, slice_get, Option, None, Some}
use Rattle.std.specs.List.{concat}
use Rattle.tftp_packet.specs.Packet.{Packet, read, write, data_block, ack, error}
use Rattle.tftp_packet.specs.Blocks.{blocks_to}
use Rattle.tftp_ends.specs.declared.send_state.SendState.TheVariants as sending
use Rattle.tftp_ends.specs.Ends.{Verdict, Sender, Receiver, SendAnswer, RecvAnswer, DataAnswer, TakeAnswer, data_packet, sender_start, sender_ack, sender_timeout, receiver_start, sent_of, receiver_data, receiver_timeout, receiver_take}

pub record Pair : Type 0 where
  pub sender : Sender
  pub receiver : Receiver
  -- every DATA and every ACK that either end ever sent, in order; nothing leaves the network
  pub sent : List Packet
  -- how many of the sender's time-outs made it send
  pub resent : ℕ
  -- the files that were taken out of the receiver
  pub taken : List (List ℕ)

-- What may happen next. A loss is a packet that is never delivered.
pub data PairEvent : Type 0 where
  -- the packet at this index of those sent arrives at the end that it was sent to; any may arrive again, and in any
  -- order. `verdict` is whether an allocation that the receiver then makes is granted
  deliver : (index : ℕ) (verdict : Verdict) → PairEvent
  sender_times_out : PairEvent
  receiver_times_out : PairEvent
  -- the receiver is asked for the file
  take_file : PairEvent

-- the receiver is new, and the sender has sent DATA 1
abbrev pub pair_start : (file : List ℕ) → Pair
pair_start file =
    record { sender = sender_start file; receiver = receiver_start; sent = data_packet file 1 ∷ []; resent = 0; taken = [] }

-- ---- the pair after an end's answer

abbrev pub sent_after : List Packet → Option Packet → List Packet
sent_after sent None = sent
sent_after sent (Some packet) = sent ++ packet ∷ []

abbrev pub resent_after : ℕ → Option Packet → ℕ
resent_after resent None = resent
resent_after resent (Some packet) = resent + 1

abbrev pub taken_after : List (List ℕ) → Option (List ℕ) → List (List ℕ)
taken_after taken None = taken
taken_after taken (Some file) = taken ++ file ∷ []

abbrev pub after_ack : SendAnswer → Pair → Pair
after_ack a p =
    record { sender = a.sender; receiver = p.receiver; sent = sent_after p.sent a.out; resent = p.resent; taken = p.taken }

abbrev pub after_data : DataAnswer → Pair → Pair
after_data a p =
    record { sender = p.sender; receiver = a.receiver; sent = sent_after p.sent (sent_of a.result); resent = p.resent; taken = p.taken }

abbrev pub after_sender_timeout : SendAnswer → Pair → Pair
after_sender_timeout a p =
    record {
      sender = a.sender;
      receiver = p.receiver;
      sent = sent_after p.sent a.out;
      resent = resent_after p.resent a.out;
      taken = p.taken;
    }

abbrev pub after_receiver_timeout : RecvAnswer → Pair → Pair
after_receiver_timeout a p =
    record { sender = p.sender; receiver = a.receiver; sent = sent_after p.sent a.out; resent = p.resent; taken = p.taken }

abbrev pub after_take : TakeAnswer → Pair → Pair
after_take a p =
    record { sender = p.sender; receiver = a.receiver; sent = p.sent; resent = p.resent; taken = taken_after p.taken a.file }

-- ---- the run

-- a DATA arrives at the receiver, an ACK at the sender
abbrev pub after_packet : Option Packet → Verdict → Pair → Pair
after_packet None verdict p = p
after_packet (Some (read name mode)) verdict p = p
after_packet (Some (write name mode)) verdict p = p
after_packet (Some (data_block n body)) verdict p = after_data (receiver_data verdict n body p.receiver) p
after_packet (Some (ack n)) verdict p = after_ack (sender_ack n p.sender) p
after_packet (Some (error code text)) verdict p = p

-- an index at which nothing was sent changes nothing
abbrev pub after_event : PairEvent → Pair → Pair
after_event (deliver index verdict) p = after_packet (slice_get p.sent index) verdict p
after_event sender_times_out p = after_sender_timeout (sender_timeout p.sender) p
after_event receiver_times_out p = after_receiver_timeout (receiver_timeout p.receiver) p
after_event take_file p = after_take (receiver_take p.receiver) p

abbrev pub after_events : List PairEvent → Pair → Pair
after_events [] p = p
after_events (e ∷ es) p = after_events es (after_event e p)

-- a whole run of a sender of this file
abbrev pub pair_run : (file : List ℕ) → List PairEvent → Pair
pair_run file events = after_events events (pair_start file)

-- ---- what holds of it

abbrev pub is_data : Packet → Bool
is_data (read name mode) = false
is_data (write name mode) = false
is_data (data_block n body) = true
is_data (ack n) = false
is_data (error code text) = false

-- until the file is taken out, the receiver's bytes are the blocks that it counts, joined
abbrev pub HasFirstBlocks : (file : List ℕ) → Pair → Type 0
HasFirstBlocks file p = p.taken ≡ [] → p.receiver.file ≡ Some (concat (blocks_to file p.receiver.count))

-- until the file is taken out, the sender has finished only if the receiver has the whole file
abbrev pub FinishesWhole : (file : List ℕ) → Pair → Type 0
FinishesWhole file p = p.sender.state ≡ sending.Finished → p.taken ≡ [] → p.receiver.file ≡ Some file

-- the sender has sent each block up to its current one once, and one DATA for each time-out that made it send
abbrev pub SendsOnce : Pair → Type 0
SendsOnce p = count_by is_data p.sent ≡ p.sender.current + p.resent

-- at most one file is taken out, and it is the sender's
abbrev pub IsTakenOnce : (file : List ℕ) → Pair → Type 0
IsTakenOnce file p = (p.taken ≡ []) ⊎ (p.taken ≡ file ∷ [])

-- What the ends of the server's transfers send and become, as the claims about them say.
use Rattle.std.proofs.Common.{◌≡◌, ◌≢◌, ℕ, ◌+◌, Bool, true, false, ◌==◌, List, Option, None, Some, IfSome, refl, sym, subst, inr}
use Rattle.tftp_packet.specs.declared.endpoint.Endpoint.{Endpoint}
use Rattle.tftp_packet.specs.Packet.{Packet, ack}
use Rattle.tftp_packet.specs.Blocks.{block_of}
use Rattle.tftp_ends.specs.declared.limits.TheConstants.{MISSES, DALLY}
use Rattle.tftp_ends.specs.declared.send_state.SendState.{SendState}
use Rattle.tftp_ends.specs.declared.send_state.SendState.TheVariants as send
use Rattle.tftp_ends.specs.declared.recv_state.RecvState.{RecvState}
use Rattle.tftp_ends.specs.declared.recv_state.RecvState.TheVariants as recv
use Rattle.tftp_ends.specs.Ends.{Sender, SendAnswer, data_packet, dgram_of, sender_ack, sender_timeout, Receiver, RecvAnswer, receiver_missed, receiver_dallied, receiver_timeout_in, receiver_timeout, IsEnded, HoldsFirst, IsReceiver}
use Rattle.tftp_ends.proofs.Steps.{KeepsSender, sender_ack-keeps, sender_timeout-keeps, sends-reads_back, receiver_timeout-keeps, acks-reads_back}
use Rattle.tftp_ends.proofs.Holding.{last-ended, receiver_timeout-same}
use Rattle.archive_table.specs.Table.{End, Transfer, sending, receiving, transfer_at, sends_from, sending_goes_on, sender_answered, ack_at, receiving_goes_on, receiver_answered, waits_at, timeout_at, table_timeout}
use Rattle.archive_model.specs.World.{World, after_transfer}
use Rattle.archive_theorem.specs.Headline.{IsOwn}
use Rattle.archive_theorem.proofs.Claim_Past.{HasPut, HasTaken, Serves, ServesBlock, AcksPut, ServerAcks, Says, IsServing, HasCome, ReceivesPut, IsReceivingAt, IsLiveEnd, IsRunning}
use Rattle.archive_theorem.proofs.Claim_Invariant.{Holds}
use Rattle.archive_theorem.proofs.Server_Sends.{SendsHonest, from_port, sends_packet, goes_on-holds, closes-holds}

-- ---- a sender

-- what it sends is a block of the collection
block_says : (w : World) (port : ℕ) (peer : Endpoint) (s : Sender) → IsServing w.past peer port s → (out : Option Packet) (n : ℕ) →
    IfSome out (λ p. p ≡ data_packet s.file n) → IfSome out (Says w.past (from_port w port) peer)
block_says w port peer s serving None n sends = tt
block_says w port peer s serving (Some p) n sends =
    let served : ServesBlock w.past (from_port w port) peer n (block_of s.file n) =
    record { ours = refl; rules = serving.rules; file = s.file; serves = serving.serves; is_block = refl } in
    subst (Says w.past (from_port w port) peer) (sym sends) (inr served)

-- after a step of its sender a transfer still serves the same collection
pub serving-after : (w : World) (port : ℕ) (peer : Endpoint) (s : Sender) (a : SendAnswer) → IsServing w.past peer port s → KeepsSender s a →
    IsServing w.past peer port a.sender
serving-after w port peer s a serving k =
    record {
      rules = serving.rules;
      serves = subst (λ (file : List ℕ). Serves w.past peer port serving.rules file) (sym k.file) serving.serves;
      bounds = k.fits serving.bounds;
    }

module _ (w : World) (h : Holds w) (port : ℕ) (t : Transfer) (is : transfer_at port w.server ≡ Some t) where
  -- by the state of the sender after a step
  sender_in : (state : SendState) (s : Sender) (a : SendAnswer) → IsServing w.past t.peer port s → KeepsSender s a →
      Holds (after_transfer (sending_goes_on state port t.peer a w.server) w)
  sender_in send.Running s a serving k =
      goes_on-holds w h port t (sending a.sender) (dgram_of a.out) is (serving-after w port t.peer s a serving k) (λ running. absurd running)
      (sends_packet w port t.peer a.out (sends-reads_back s a k serving.bounds) (block_says w port t.peer s serving a.out a.sender.current k.sends))
  sender_in send.Finished s a serving k =
      closes-holds w h port t.peer (dgram_of a.out)
      (sends_packet w port t.peer a.out (sends-reads_back s a k serving.bounds) (block_says w port t.peer s serving a.out a.sender.current k.sends))
  sender_in send.TimedOut s a serving k =
      closes-holds w h port t.peer (dgram_of a.out)
      (sends_packet w port t.peer a.out (sends-reads_back s a k serving.bounds) (block_says w port t.peer s serving a.out a.sender.current k.sends))

  -- after a step of its sender the invariant holds
  sender-holds : (s : Sender) (a : SendAnswer) → IsServing w.past t.peer port s → KeepsSender s a →
      Holds (after_transfer (sender_answered port t.peer a w.server) w)
  sender-holds s a serving k = sender_in a.sender.state s a serving k

  -- an ACK arrives
  pub ack-holds : (n : ℕ) (s : Sender) → IsServing w.past t.peer port s → Holds (after_transfer (ack_at (sending s) port t.peer n w.server) w)
  ack-holds n s serving = sender-holds s (sender_ack n s) serving (sender_ack-keeps n s)

-- ---- a receiver

-- what was received by now, if the transfer goes on
abbrev pub MayHaveCome : World → Endpoint → (file : List ℕ) → Receiver → RecvState → Type 0
MayHaveCome w e file r recv.Running = HoldsFirst file r
MayHaveCome w e file r recv.Complete = HasTaken w.past e file × (r.file ≡ None)
MayHaveCome w e file r recv.TimedOut = Unit {0}
MayHaveCome w e file r recv.Over = Unit {0}

-- a receiver acknowledges the last block of a put only once the file was taken
pub acks-put : (w : World) (e : Endpoint) (file : List ℕ) (r : Receiver) (state : RecvState) → r.state ≡ state → IsReceiver r →
    HasPut w.past e file → HasCome w.past e file r state → AcksPut w.past e r.count
acks-put w e file r recv.Running is bounds began come =
    record {
      file = file;
      began = began;
      is_taken = λ last. absurd (subst IsEnded is (last-ended file r come bounds last));
    }
acks-put w e file r recv.Complete is bounds began come = record { file = file; began = began; is_taken = λ last. come.0 }
acks-put w e file r recv.TimedOut is bounds began come = absurd come
acks-put w e file r recv.Over is bounds began come = absurd come

-- what is sent is an ACK of the receiver
pub ack_says : (w : World) (port : ℕ) (peer : Endpoint) (out : Option Packet) (n : ℕ) → IfSome out (λ p. p ≡ ack n) →
    (IsOwn w peer → AcksPut w.past peer n) → IfSome out (Says w.past (from_port w port) peer)
ack_says w port peer None n sends whom = tt
ack_says w port peer (Some p) n sends whom =
    let acks : ServerAcks w.past (from_port w port) peer n = record { ours = refl; whom = whom } in
    subst (Says w.past (from_port w port) peer) (sym sends) (inr acks)

-- ---- a time-out of a receiver

-- a time-out while blocks are missing
missed_come : (w : World) (e : Endpoint) (file : List ℕ) (r : Receiver) (last : Bool) → HoldsFirst file r →
    MayHaveCome w e file (receiver_missed last r).receiver (receiver_missed last r).receiver.state
missed_come w e file r true come = tt
missed_come w e file r false come = come

-- a time-out while it waits for a repeated last block
dallied_come : (w : World) (e : Endpoint) (file : List ℕ) (r : Receiver) (last : Bool) → HasTaken w.past e file × (r.file ≡ None) →
    MayHaveCome w e file (receiver_dallied last r).receiver (receiver_dallied last r).receiver.state
dallied_come w e file r true come = tt
dallied_come w e file r false come = come

-- any time-out leaves what was received, or closes the transfer
timeout_come : (w : World) (e : Endpoint) (file : List ℕ) (r : Receiver) (state : RecvState) → HasCome w.past e file r state →
    MayHaveCome w e file (receiver_timeout_in state r).receiver (receiver_timeout_in state r).receiver.state
timeout_come w e file r recv.Running come = missed_come w e file r (r.misses + 1 == MISSES) come
timeout_come w e file r recv.Complete come = dallied_come w e file r (r.misses + 1 == DALLY) come
timeout_come w e file r recv.TimedOut come = absurd come
timeout_come w e file r recv.Over come = absurd come

-- such a receiver does not run again
dallied_running : (r : Receiver) (last : Bool) → (receiver_dallied last r).receiver.state ≢ recv.Running
dallied_running r true = λ e. cc
dallied_running r false = λ e. cc

-- a receiver that is running after a time-out was running before
timeout_in_running : (r : Receiver) (state : RecvState) → r.state ≡ state → (receiver_timeout_in state r).receiver.state ≡ recv.Running → r.state ≡ recv.Running
timeout_in_running r recv.Running is running = is
timeout_in_running r recv.Complete is running = absurd (dallied_running r (r.misses + 1 == DALLY) running)
timeout_in_running r recv.TimedOut is running = running
timeout_in_running r recv.Over is running = running

-- its transfer is not closed: it is running or has the whole file
abbrev pub GoesOn : RecvState → Type 0
GoesOn recv.Running = Unit {0}
GoesOn recv.Complete = Unit {0}
GoesOn recv.TimedOut = ⊥
GoesOn recv.Over = ⊥

-- while its transfer goes on, what was received is known
pub has_come : (w : World) (e : Endpoint) (file : List ℕ) (r : Receiver) (state : RecvState) → GoesOn state → MayHaveCome w e file r state →
    HasCome w.past e file r state
has_come w e file r recv.Running on come = come
has_come w e file r recv.Complete on come = come
has_come w e file r recv.TimedOut on come = absurd on
has_come w e file r recv.Over on come = absurd on

module _ (w : World) (h : Holds w) (port : ℕ) (t : Transfer) (is : transfer_at port w.server ≡ Some t) (r : Receiver)
    (end : t.end ≡ receiving r) (there : IsReceivingAt w.past t.peer port r) where
  -- its answer to a time-out, and the receiver after it
  abbrev waited : RecvAnswer
  waited = receiver_timeout r

  -- what it acknowledges has come
  waited_acks : IsOwn w t.peer → AcksPut w.past t.peer waited.receiver.count
  waited_acks own =
      let p = there.whose own in
      subst (AcksPut w.past t.peer) (sym (receiver_timeout-same r).0) (acks-put w t.peer p.file r r.state refl there.bounds p.began p.come)

  -- what it sends is honest
  waited_sends : SendsHonest w (sends_from port t.peer (dgram_of waited.out))
  waited_sends =
      let k = receiver_timeout-keeps r in
      sends_packet w port t.peer waited.out (acks-reads_back r waited.receiver waited.out k there.bounds)
      (ack_says w port t.peer waited.out waited.receiver.count k.sends waited_acks)

  -- it still receives the put
  waited_put : GoesOn waited.receiver.state → ReceivesPut w.past t.peer r → ReceivesPut w.past t.peer waited.receiver
  waited_put on p =
      record {
        file = p.file;
        began = p.began;
        come = has_come w t.peer p.file waited.receiver waited.receiver.state on (timeout_come w t.peer p.file r r.state p.come);
      }

  -- and is still what the claims say of a receiver
  waited_there : GoesOn waited.receiver.state → IsReceivingAt w.past t.peer port waited.receiver
  waited_there on =
      record {
        bounds = (receiver_timeout-keeps r).fits there.bounds;
        count = there.count;
        opened = there.opened;
        whose = λ own. waited_put on (there.whose own);
      }

  -- if it is running after the time-out, it was before
  onward : IsRunning (receiving waited.receiver) → IsRunning t.end
  onward running = subst IsRunning (sym end) (timeout_in_running r r.state refl running)

  -- by the state of the receiver after the time-out
  receiver_in : (state : RecvState) → waited.receiver.state ≡ state → Holds (after_transfer (receiving_goes_on state port t.peer waited w.server) w)
  receiver_in recv.Running e =
      goes_on-holds w h port t (receiving waited.receiver) (dgram_of waited.out) is (waited_there (subst GoesOn (sym e) tt))
      onward waited_sends
  receiver_in recv.Complete e =
      goes_on-holds w h port t (receiving waited.receiver) (dgram_of waited.out) is (waited_there (subst GoesOn (sym e) tt))
      onward waited_sends
  receiver_in recv.TimedOut e = closes-holds w h port t.peer (dgram_of waited.out) waited_sends
  receiver_in recv.Over e = closes-holds w h port t.peer (dgram_of waited.out) waited_sends

  -- a time-out of a receiver keeps the invariant
  pub receiver_waits-holds : Holds (after_transfer (receiver_answered port t.peer waited w.server) w)
  receiver_waits-holds = receiver_in waited.receiver.state refl

-- ---- a time-out at a port

-- a time-out of either end
end_waits : (w : World) (h : Holds w) (port : ℕ) (t : Transfer) → transfer_at port w.server ≡ Some t → (end : End) → t.end ≡ end →
    IsLiveEnd w.past t.peer port end → Holds (after_transfer (waits_at end port t.peer w.server) w)
end_waits w h port t is (sending s) end there =
    sender-holds w h port t is s (sender_timeout s) there (sender_timeout-keeps s)
end_waits w h port t is (receiving r) end there = receiver_waits-holds w h port t is r end there

-- of a port that is live or not
port_waits : (w : World) (h : Holds w) (port : ℕ) (found : Option Transfer) → transfer_at port w.server ≡ found →
    Holds (after_transfer (timeout_at found port w.server) w)
port_waits w h port None is = h
port_waits w h port (Some t) is = end_waits w h port t is t.end refl (h.live port t is).end

-- a time-out of any port of the server keeps the invariant
pub timeout-holds : (w : World) → Holds w → (port : ℕ) → Holds (after_transfer (table_timeout port w.server) w)
timeout-holds w h port = port_waits w h port (transfer_at port w.server) refl

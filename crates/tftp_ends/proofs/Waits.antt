-- Nothing lowers what an end has come through, and each time-out raises it or ends the end.
use Rattle.std.proofs.Common.{◌≡◌, ◌≢◌, ℕ, ◌+◌, ◌<◌, ◌≤◌, ◌==◌, Bool, true, false, List, refl, arith}
use Rattle.tftp_packet.specs.Blocks.{block_count}
use Rattle.tftp_ends.specs.declared.limits.TheConstants.{MISSES, DALLY}
use Rattle.tftp_ends.specs.declared.send_state.SendState.{SendState}
use Rattle.tftp_ends.specs.declared.send_state.SendState.TheVariants as sending
use Rattle.tftp_ends.specs.declared.recv_state.RecvState.{RecvState}
use Rattle.tftp_ends.specs.declared.recv_state.RecvState.TheVariants as receiving
use Rattle.tftp_ends.specs.Ends.{Verdict, granted, refused, Sender, sender_goes_on, sender_acked, sender_ack_in, sender_missed, sender_timeout_in, Receiver, receiver_takes, receiver_next, receiver_again, is_last_come, is_past, receiver_running, receiver_data_in, receiver_missed, receiver_dallied, receiver_timeout_in}
use Rattle.tftp_ends.specs.Patience.{sender_waited, receiver_waited, KeepsSenderWait, CountsSenderWait, KeepsReceiverWait, CountsReceiverWait}

-- ---- the sender

-- the next block counts for all time-outs in a row before it
goes_on_waited : (last : Bool) (s : Sender) → s.misses < MISSES → sender_waited s ≤ sender_waited (sender_goes_on last s).sender
goes_on_waited true s patient = omega arith
goes_on_waited false s patient = omega arith

acked_waited : (current : Bool) (s : Sender) → s.misses < MISSES → sender_waited s ≤ sender_waited (sender_acked current s).sender
acked_waited true s patient = goes_on_waited (s.current == block_count s.file) s patient
acked_waited false s patient = omega arith

ack_waited : (state : SendState) (n : ℕ) (s : Sender) → s.misses < MISSES → sender_waited s ≤ sender_waited (sender_ack_in state n s).sender
ack_waited sending.Running n s patient = acked_waited (n == s.current) s patient
ack_waited sending.Finished n s patient = omega arith
ack_waited sending.TimedOut n s patient = omega arith

pub sender_ack-waited : (n : ℕ) (s : Sender) → KeepsSenderWait n s
sender_ack-waited n s is = ack_waited s.state n s is.patient

missed_waited : (last : Bool) (s : Sender) → (sender_missed last s).sender.state ≡ sending.Running →
    sender_waited (sender_missed last s).sender ≡ sender_waited s + 1
missed_waited true s runs = cc
missed_waited false s runs = omega arith

waited_in : (state : SendState) (s : Sender) → s.state ≡ state → (sender_timeout_in state s).sender.state ≡ sending.Running →
    sender_waited (sender_timeout_in state s).sender ≡ sender_waited s + 1
waited_in sending.Running s is runs = missed_waited (s.misses + 1 == MISSES) s runs
waited_in sending.Finished s is runs = cc
waited_in sending.TimedOut s is runs = cc

pub sender_timeout-waited : (s : Sender) → CountsSenderWait s
sender_timeout-waited s = waited_in s.state s refl

-- ---- the receiver

takes_waited : (verdict : Verdict) (body : List ℕ) (r : Receiver) → r.misses < MISSES →
    receiver_waited r ≤ receiver_waited (receiver_takes verdict body r).receiver
takes_waited granted body r patient = omega arith
takes_waited refused body r patient = omega arith

next_waited : (past : Bool) (verdict : Verdict) (body : List ℕ) (r : Receiver) → r.misses < MISSES →
    receiver_waited r ≤ receiver_waited (receiver_next past verdict body r).receiver
next_waited true verdict body r patient = omega arith
next_waited false verdict body r patient = takes_waited verdict body r patient

again_waited : (last : Bool) (r : Receiver) → receiver_waited r ≤ receiver_waited (receiver_again last r).receiver
again_waited true r = omega arith
again_waited false r = omega arith

running_waited : (next : Bool) (verdict : Verdict) (n : ℕ) (body : List ℕ) (r : Receiver) → r.misses < MISSES →
    receiver_waited r ≤ receiver_waited (receiver_running next verdict n body r).receiver
running_waited true verdict n body r patient = next_waited (is_past n body) verdict body r patient
running_waited false verdict n body r patient = again_waited (is_last_come n r) r

data_waited : (state : RecvState) (verdict : Verdict) (n : ℕ) (body : List ℕ) (r : Receiver) → r.misses < MISSES →
    receiver_waited r ≤ receiver_waited (receiver_data_in state verdict n body r).receiver
data_waited receiving.Running verdict n body r patient = running_waited (n == r.count + 1) verdict n body r patient
data_waited receiving.Complete verdict n body r patient = again_waited (is_last_come n r) r
data_waited receiving.TimedOut verdict n body r patient = omega arith
data_waited receiving.Over verdict n body r patient = omega arith

pub receiver_data-waited : (verdict : Verdict) (n : ℕ) (body : List ℕ) (r : Receiver) → KeepsReceiverWait verdict n body r
receiver_data-waited verdict n body r is = data_waited r.state verdict n body r is.patient

missing_waited : (last : Bool) (r : Receiver) → (receiver_missed last r).receiver.state ≢ receiving.TimedOut →
    receiver_waited (receiver_missed last r).receiver ≡ receiver_waited r + 1
missing_waited true r alive = absurd (alive refl)
missing_waited false r alive = omega arith

dallied_waited : (last : Bool) (r : Receiver) → (receiver_dallied last r).receiver.state ≢ receiving.Over →
    receiver_waited (receiver_dallied last r).receiver ≡ receiver_waited r + 1
dallied_waited true r alive = absurd (alive refl)
dallied_waited false r alive = omega arith

timeout_waited : (state : RecvState) (r : Receiver) → r.state ≡ state → (receiver_timeout_in state r).receiver.state ≢ receiving.TimedOut →
    (receiver_timeout_in state r).receiver.state ≢ receiving.Over → receiver_waited (receiver_timeout_in state r).receiver ≡ receiver_waited r + 1
timeout_waited receiving.Running r is alive waits = missing_waited (r.misses + 1 == MISSES) r alive
timeout_waited receiving.Complete r is alive waits = dallied_waited (r.misses + 1 == DALLY) r waits
timeout_waited receiving.TimedOut r is alive waits = absurd (alive is)
timeout_waited receiving.Over r is alive waits = absurd (waits is)

pub receiver_timeout-waited : (r : Receiver) → CountsReceiverWait r
receiver_timeout-waited r waits = timeout_waited r.state r refl waits.0 waits.1

-- How much an end has come through: MISSES for each block that it has, and one for each time-out since. Nothing lowers it, and
-- each time-out raises it or ends the end; so the time-outs of an end are bounded by its blocks.
use Rattle.std.specs.Prelude.{◌≡◌, ◌≢◌, ℕ, ◌+◌, ◌*◌, ◌≤◌, List}
use Rattle.tftp_ends.specs.declared.limits.TheConstants.{MISSES}
use Rattle.tftp_ends.specs.declared.send_state.SendState.TheVariants as sending
use Rattle.tftp_ends.specs.declared.recv_state.RecvState.{RecvState}
use Rattle.tftp_ends.specs.declared.recv_state.RecvState.TheVariants as receiving
use Rattle.tftp_ends.specs.Ends.{Verdict, Sender, sender_ack, sender_timeout, IsSender, Receiver, receiver_data, receiver_timeout, IsReceiver}

abbrev pub sender_waited : Sender → ℕ
sender_waited s = MISSES * s.current + s.misses

abbrev pub receiver_waited : Receiver → ℕ
receiver_waited r = MISSES * r.count + r.misses

-- no ACK lowers it
abbrev pub KeepsSenderWait : (n : ℕ) → Sender → Type 0
KeepsSenderWait n s = IsSender s → sender_waited s ≤ sender_waited (sender_ack n s).sender

-- a time-out after which the sender still runs raises it by one
abbrev pub CountsSenderWait : Sender → Type 0
CountsSenderWait s = (sender_timeout s).sender.state ≡ sending.Running → sender_waited (sender_timeout s).sender ≡ sender_waited s + 1

-- no DATA lowers it
abbrev pub KeepsReceiverWait : Verdict → (n : ℕ) (body : List ℕ) → Receiver → Type 0
KeepsReceiverWait verdict n body r =
    IsReceiver r → receiver_waited r ≤ receiver_waited (receiver_data verdict n body r).receiver

-- a receiver in this state has not ended
abbrev pub IsWaiting : RecvState → Type 0
IsWaiting state = (state ≢ receiving.TimedOut) × (state ≢ receiving.Over)

-- a time-out after which the receiver still waits for a block raises it by one
abbrev pub CountsReceiverWait : Receiver → Type 0
CountsReceiverWait r =
    IsWaiting (receiver_timeout r).receiver.state → receiver_waited (receiver_timeout r).receiver ≡ receiver_waited r + 1

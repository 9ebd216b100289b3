-- A receiver's reply to a DATA is an ACK, and no ACK is read as a refusal.
use Rattle.std.specs.Prelude.{◌≡◌, ℕ, ◌+◌, Bool, true, false, ◌==◌, List, Option, None, Some, Result, Ok, Err}
use Rattle.std.proofs.Common.{refl, ap, ◌∙◌}
use Rattle.std.proofs.lemmas.Bool.{true≢false}
use Rattle.tftp_packet.specs.Packet.{Packet, ack, encode}
use Rattle.tftp_ends.specs.declared.recv_fault.RecvFault.{RecvFault}
use Rattle.tftp_ends.specs.declared.recv_state.RecvState.{RecvState}
use Rattle.tftp_ends.specs.declared.recv_state.RecvState.TheVariants.{Running, Complete, TimedOut, Over}
use Rattle.tftp_ends.specs.Ends.{data_packet, Verdict, granted, refused, Receiver, receiver_takes, receiver_next, receiver_again, receiver_running, receiver_data_in, receiver_data, is_past, is_last_come, answer_of}
use Rattle.archive_table.specs.Table.{all, no_memory, dgram_grant, refusal_dgram, grant_of, sends_from}
use Rattle.archive_table.specs.Steps.{reply_grant}
use Rattle.archive_table.proofs.Blocks.{dgram_or}
use Rattle.tftp_packet.specs.declared.endpoint.Endpoint.{Endpoint}
use Rattle.tftp_packet.specs.declared.refusal.Refusal.TheVariants.{FileTooLong, OutOfMemory}

-- the reply, if there is one, is an ACK
abbrev IsAckOut : Result (Option Packet) RecvFault → Type 0
IsAckOut (Ok None) = Unit {0}
IsAckOut (Ok (Some p)) = (k : ℕ) × (p ≡ ack k)
IsAckOut (Err e) = Unit {0}

-- the next block is acknowledged
takes_out : (v : Verdict) (body : List ℕ) (r : Receiver) → IsAckOut (receiver_takes v body r).result
takes_out granted body r = (r.count + 1, refl)
takes_out refused body r = tt

-- the next block, where it may be one too many
next_out : (past : Bool) (v : Verdict) (body : List ℕ) (r : Receiver) → IsAckOut (receiver_next past v body r).result
next_out true v body r = tt
next_out false v body r = takes_out v body r

-- a repeated block is acknowledged, or there is no reply
again_out : (last : Bool) (r : Receiver) → IsAckOut (receiver_again last r).result
again_out true r = (r.count, refl)
again_out false r = tt

-- any block while blocks are missing
running_out : (next : Bool) (v : Verdict) (n : ℕ) (body : List ℕ) (r : Receiver) → IsAckOut (receiver_running next v n body r).result
running_out true v n body r = next_out (is_past n body) v body r
running_out false v n body r = again_out (is_last_come n r) r

in_out : (state : RecvState) (v : Verdict) (n : ℕ) (body : List ℕ) (r : Receiver) → IsAckOut (receiver_data_in state v n body r).result
in_out Running v n body r = running_out (n == r.count + 1) v n body r
in_out Complete v n body r = again_out (is_last_come n r) r
in_out TimedOut v n body r = tt
in_out Over v n body r = tt

-- an ACK is not read as a refusal
pub ack_grant : (k : ℕ) → dgram_grant (encode (ack k)) ≡ all
unfolding encode
ack_grant k = refl

-- the call returned a reply or none, and no fault
abbrev is_answer : Result (Option (List ℕ)) RecvFault → Bool
is_answer (Ok out) = true
is_answer (Err e) = false

-- so a reply that is an ACK, or none, means that everything was granted
read_out : (result : Result (Option Packet) RecvFault) (out : Option (List ℕ)) → IsAckOut result → Ok out ≡ answer_of result → reply_grant out ≡ all
read_out (Ok None) out h e = ap reply_grant (ap dgram_or e)
read_out (Ok (Some p)) out h e = ap reply_grant (ap dgram_or e) ∙ ap (λ (q : Packet). dgram_grant (encode q)) h.1 ∙ ack_grant h.0
read_out (Err x) out h e = absurd (true≢false (ap is_answer e))

-- the refusals of a block, read back
pub past_grant : dgram_grant (refusal_dgram FileTooLong) ≡ all
unfolding encode
past_grant = refl

-- the ERROR for memory is read back as that
pub memory_grant : dgram_grant (refusal_dgram OutOfMemory) ≡ no_memory
unfolding encode
memory_grant = refl

-- a receiver's reply is not a refusal
pub data_reply : (v : Verdict) (n : ℕ) (body : List ℕ) (r : Receiver) (out : Option (List ℕ)) → Ok out ≡ answer_of (receiver_data v n body r).result → reply_grant out ≡ all
data_reply v n body r out e = read_out (receiver_data v n body r).result out (in_out r.state v n body r) e

-- the same once it is sent from a port
pub sent_grant : (port : ℕ) (peer : Endpoint) (out : Option (List ℕ)) → reply_grant out ≡ all → grant_of (sends_from port peer out) ≡ all
sent_grant port peer None e = refl
sent_grant port peer (Some dgram) e = e

-- ---- nor is a sender's DATA

-- a DATA is not read as a refusal
pub data_grant : (file : List ℕ) (k : ℕ) → dgram_grant (encode (data_packet file k)) ≡ all
unfolding encode
data_grant file k = refl

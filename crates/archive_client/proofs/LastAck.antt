-- Which step makes a put count its file as sent: the ACK of the last block, from the port that it is bound to.
use Rattle.std.proofs.Common.{◌≡◌, ◌≢◌, ℕ, ◌+◌, ◌==◌, ◌⊎◌, Bool, true, false, List, Option, Some, Result, Ok, Err, inl, inr, refl, ap, ◌∙◌}
use Rattle.std.proofs.lemmas.Bool.{eqb-true}
use Rattle.tftp_packet.specs.declared.endpoint.Endpoint.{Endpoint}
use Rattle.tftp_packet.specs.declared.packet_fault.PacketFault.{PacketFault}
use Rattle.tftp_packet.specs.Packet.{Packet, read, write, data_block, ack, error}
use Rattle.tftp_packet.specs.Blocks.{block_count}
use Rattle.tftp_packet.specs.Decode.{decode_bytes}
use Rattle.tftp_ends.specs.declared.limits.TheConstants.{MISSES}
use Rattle.tftp_ends.specs.declared.send_state.SendState.{SendState}
use Rattle.tftp_ends.specs.declared.send_state.SendState.TheVariants as send
use Rattle.tftp_ends.specs.declared.recv_state.RecvState.{RecvState}
use Rattle.tftp_ends.specs.declared.recv_state.RecvState.TheVariants as recv
use Rattle.tftp_ends.specs.declared.recv_fault.RecvFault.{RecvFault}
use Rattle.tftp_ends.specs.Ends.{Verdict, Sender, SendAnswer, sender_timeout, Receiver, RecvAnswer, receiver_start, receiver_data, receiver_timeout}
use Rattle.tftp_ends.proofs.Steps.{sender_ack-finishes, sender_timeout-finishes}
use Rattle.tftp_ends.specs.Input.{Input, nothing, stray, refusal, acked, block, input_from_peer, input_from_other, input_of_packet}
use Rattle.archive_client.specs.declared.state.State.TheVariants.{Sent}
use Rattle.archive_client.proofs.Machine.{client_at}
use Rattle.archive_client.specs.Client.{Operation, put, get, Phase, asking, sending, receiving, failed, Client, IsLastAck, state_of, phase_state, send_state, recv_state, is_over, client_input_decoded, client_input_at, client_input, phase_peer, client_by_input, client_unless_over, client_datagram, client_timeout, asks_again, put_answered, put_waited, get_took, get_answered, get_refused, get_waited}

-- ---- when a file counts as sent

-- a put counts as sent only if its sender has finished
send-finished : (state : SendState) → send_state state ≡ Sent → state ≡ send.Finished
send-finished send.Running sent = cc
send-finished send.Finished sent = refl
send-finished send.TimedOut sent = cc

-- a get never counts as sent
recv-never : (state : RecvState) → recv_state state ≢ Sent
recv-never recv.Running = λ e. cc
recv-never recv.Complete = λ e. cc
recv-never recv.TimedOut = λ e. cc
recv-never recv.Over = λ e. cc

-- ---- which datagram is an ACK for the client

-- the ACK with this number, from this port
record IsAckOf (peer n : ℕ) (from : Endpoint) (bytes : List ℕ) : Type 0 where
  from_peer : from.port ≡ peer
  is_ack : decode_bytes bytes ≡ Ok (ack n)

-- only an ACK means an ACK
from_peer-acked : (p : Packet) (n : ℕ) → input_from_peer p ≡ acked n → p ≡ ack n
from_peer-acked (read name mode) n e = cc
from_peer-acked (write name mode) n e = cc
from_peer-acked (data_block m body) n e = cc
from_peer-acked (ack m) n e = cc
from_peer-acked (error code text) n e = cc

-- from another endpoint nothing means an ACK
from_other-acked : (p : Packet) (n : ℕ) → input_from_other p ≢ acked n
from_other-acked (read name mode) n = λ e. cc
from_other-acked (write name mode) n = λ e. cc
from_other-acked (data_block m body) n = λ e. cc
from_other-acked (ack m) n = λ e. cc
from_other-acked (error code text) n = λ e. cc

-- so the ACK comes from the peer
packet-acked : (same : Bool) (peer n : ℕ) (from : Endpoint) (bytes : List ℕ) (p : Packet) → (from.port == peer) ≡ same →
    decode_bytes bytes ≡ Ok p → input_of_packet same p ≡ acked n → IsAckOf peer n from bytes
packet-acked true peer n from bytes p is_same is e =
    record { from_peer = eqb-true _ _ is_same; is_ack = is ∙ ap (λ (q : Packet). Ok q) (from_peer-acked p n e) }
packet-acked false peer n from bytes p is_same is e = absurd (from_other-acked p n e)

-- and its bytes are those of an ACK with this number
decoded-acked : (peer n : ℕ) (from : Endpoint) (bytes : List ℕ) (answer : Result Packet PacketFault) →
    decode_bytes bytes ≡ answer → client_input_decoded (Some peer) from.port answer ≡ acked n → IsAckOf peer n from bytes
decoded-acked peer n from bytes (Ok p) is e = packet-acked (from.port == peer) peer n from bytes p refl is e
decoded-acked peer n from bytes (Err fault) is e = cc

-- from the server's host
at-acked : (ours : Bool) (peer n : ℕ) (from : Endpoint) (bytes : List ℕ) → client_input_at ours (Some peer) from.port bytes ≡ acked n → IsAckOf peer n from bytes
at-acked true peer n from bytes e = decoded-acked peer n from bytes (decode_bytes bytes) refl e
at-acked false peer n from bytes e = cc

-- ---- a datagram

-- the ACK of the request does not make it sent
answered-unsent : (first : Bool) (port own : ℕ) (server : Endpoint) (file : List ℕ) (misses : ℕ) →
    state_of (put_answered first port file (client_at own server (asking (put file) misses))).client ≢ Sent
answered-unsent true port own server file misses = λ e. cc
answered-unsent false port own server file misses = λ e. cc

-- no block that a get receives does
took-unsent : (peer : ℕ) (r : Receiver) (answer : Result (Option Packet) RecvFault) (c : Client) → state_of (get_took peer r answer c).client ≢ Sent
took-unsent peer r (Ok out) c = recv-never r.state
took-unsent peer r (Err e) c = λ f. cc

-- nor the first one, which answers its request
first-unsent : (first : Bool) (verdict : Verdict) (port n : ℕ) (body : List ℕ) (c : Client) → state_of c ≢ Sent → state_of (get_answered first verdict port n body c).client ≢ Sent
first-unsent true verdict port n body c unsent =
    took-unsent port (receiver_data verdict n body receiver_start).receiver (receiver_data verdict n body receiver_start).result c
first-unsent false verdict port n body c unsent = unsent

-- nor an ERROR
refused-unsent : (state : RecvState) (code : ℕ) (c : Client) → state_of c ≢ Sent → state_of (get_refused state code c).client ≢ Sent
refused-unsent recv.Running code c unsent = λ e. cc
refused-unsent recv.Complete code c unsent = unsent
refused-unsent recv.TimedOut code c unsent = unsent
refused-unsent recv.Over code c unsent = unsent

-- the ACK that finishes a sender is that of the last block
finished-by : (n : ℕ) (s : Sender) → send_state s.state ≢ Sent → (s.state ≡ send.Finished) ⊎ ((n ≡ s.current) × (n ≡ block_count s.file)) → n ≡ block_count s.file
finished-by n s unsent = λ by. elim by [ inl was ↦ absurd (unsent (ap (λ (x : SendState). send_state x) was)) | inr now ↦ now.1 ]

-- of all inputs only the ACK of the last block does
input-last : (own : ℕ) (server : Endpoint) (phase : Phase) (h : Input) (verdict : Verdict) (from : Endpoint) (bytes : List ℕ) →
    client_input server.host (phase_peer phase) from bytes ≡ h → phase_state phase ≢ Sent →
    state_of (client_by_input h verdict from.port (client_at own server phase)).client ≡ Sent → IsLastAck phase from bytes
input-last own server phase nothing verdict from bytes is unsent sent = absurd (unsent sent)
input-last own server phase stray verdict from bytes is unsent sent = absurd (unsent sent)
input-last own server (asking operation misses) (refusal code) verdict from bytes is unsent sent = absurd cc
input-last own server (sending peer s) (refusal code) verdict from bytes is unsent sent = absurd cc
input-last own server (receiving peer r) (refusal code) verdict from bytes is unsent sent =
    absurd (refused-unsent r.state code (client_at own server (receiving peer r)) unsent sent)
input-last own server (failed why) (refusal code) verdict from bytes is unsent sent = absurd cc
input-last own server (asking (put file) misses) (acked n) verdict from bytes is unsent sent =
    absurd (answered-unsent (n == 0) from.port own server file misses sent)
input-last own server (asking (get rules) misses) (acked n) verdict from bytes is unsent sent = absurd cc
input-last own server (sending peer s) (acked n) verdict from bytes is unsent sent =
    let from_it : IsAckOf peer n from bytes = at-acked (from.host == server.host) peer n from bytes is in
    let last : n ≡ block_count s.file = finished-by n s unsent (sender_ack-finishes n s (send-finished _ sent)) in
    (from_it.from_peer, from_it.is_ack ∙ ap (λ (k : ℕ). Ok (ack k)) last)
input-last own server (receiving peer r) (acked n) verdict from bytes is unsent sent = absurd (unsent sent)
input-last own server (failed why) (acked n) verdict from bytes is unsent sent = absurd cc
input-last own server (asking (put file) misses) (block n body) verdict from bytes is unsent sent = absurd cc
input-last own server (asking (get rules) misses) (block n body) verdict from bytes is unsent sent =
    absurd (first-unsent (n == 1) verdict from.port n body (client_at own server (asking (get rules) misses)) unsent sent)
input-last own server (sending peer s) (block n body) verdict from bytes is unsent sent = absurd (unsent sent)
input-last own server (receiving peer r) (block n body) verdict from bytes is unsent sent =
    absurd (took-unsent peer (receiver_data verdict n body r).receiver (receiver_data verdict n body r).result (client_at own server (receiving peer r)) sent)
input-last own server (failed why) (block n body) verdict from bytes is unsent sent = absurd cc

unless-last : (over : Bool) (verdict : Verdict) (from : Endpoint) (bytes : List ℕ) (c : Client) → state_of c ≢ Sent →
    state_of (client_unless_over over verdict from bytes c).client ≡ Sent → IsLastAck c.phase from bytes
unless-last true verdict from bytes c unsent sent = absurd (unsent sent)
unless-last false verdict from bytes c unsent sent = input-last c.port c.server c.phase _ verdict from bytes refl unsent sent

-- of all datagrams only the ACK of the last block, from the peer, makes a client count its file as sent
pub datagram-last : (verdict : Verdict) (from : Endpoint) (bytes : List ℕ) (c : Client) → state_of c ≢ Sent →
    state_of (client_datagram verdict from bytes c).client ≡ Sent → IsLastAck c.phase from bytes
datagram-last verdict from bytes c unsent sent = unless-last (is_over c) verdict from bytes c unsent sent

-- ---- a time-out

-- a time-out before any answer does not
asks-unsent : (last : Bool) (operation : Operation) (misses : ℕ) (c : Client) → state_of (asks_again last operation misses c).client ≢ Sent
asks-unsent true operation misses c = λ e. cc
asks-unsent false operation misses c = λ e. cc

-- nor one of a put that is bound
put-waited-unsent : (state : SendState) (peer : ℕ) (answer : SendAnswer) (c : Client) → answer.sender.state ≢ send.Finished → state_of (put_waited state peer answer c).client ≢ Sent
put-waited-unsent send.Running peer answer c running = λ sent. running (send-finished _ sent)
put-waited-unsent send.Finished peer answer c running = λ sent. running (send-finished _ sent)
put-waited-unsent send.TimedOut peer answer c running = λ sent. cc

-- nor one of a get
get-waited-unsent : (state : RecvState) (peer : ℕ) (answer : RecvAnswer) (c : Client) → state_of (get_waited state peer answer c).client ≢ Sent
get-waited-unsent recv.Running peer answer c = recv-never answer.receiver.state
get-waited-unsent recv.Complete peer answer c = recv-never answer.receiver.state
get-waited-unsent recv.TimedOut peer answer c = λ sent. cc
get-waited-unsent recv.Over peer answer c = recv-never answer.receiver.state

waits-unsent : (own : ℕ) (server : Endpoint) (phase : Phase) → phase_state phase ≢ Sent → state_of (client_timeout (client_at own server phase)).client ≢ Sent
waits-unsent own server (asking operation misses) unsent =
    asks-unsent (misses + 1 == MISSES) operation misses (client_at own server (asking operation misses))
waits-unsent own server (sending peer s) unsent =
    put-waited-unsent _ peer (sender_timeout s) (client_at own server (sending peer s))
    (λ finished. unsent (ap (λ (x : SendState). send_state x) (sender_timeout-finishes s finished)))
waits-unsent own server (receiving peer r) unsent =
    get-waited-unsent _ peer (receiver_timeout r) (client_at own server (receiving peer r))
waits-unsent own server (failed why) unsent = unsent

-- no time-out makes a client count its file as sent
pub timeout-unsent : (c : Client) → state_of c ≢ Sent → state_of (client_timeout c).client ≢ Sent
timeout-unsent c unsent = waits-unsent c.port c.server c.phase unsent

-- Every step of a client keeps its invariant.
use Rattle.std.proofs.Common.{◌≡◌, ◌≢◌, ℕ, ◌+◌, ◌<◌, ◌≤◌, ◌==◌, Bool, true, false, List, length, Option, None, Some, IsSome, Result, Ok, Err, refl, sym, subst, arith}
use Rattle.std.proofs.lemmas.Bool.{eqb-false}
use Rattle.byte_output.specs.Bytes.{IsBytes}
use Rattle.tftp_packet.specs.declared.endpoint.Endpoint.{Endpoint}
use Rattle.tftp_packet.specs.declared.packet_fault.PacketFault.{PacketFault}
use Rattle.tftp_packet.specs.declared.sizes.TheConstants.{BLOCK_SIZE}
use Rattle.tftp_packet.specs.Packet.{Packet, read, write, data_block, ack, error, HasPacketFields}
use Rattle.tftp_packet.specs.Decode.{decode_bytes}
use Rattle.tftp_packet.proofs.Packets.{decoded_packet}
use Rattle.tftp_ends.specs.declared.limits.TheConstants.{MISSES, DALLY}
use Rattle.tftp_ends.specs.declared.send_state.SendState.{SendState}
use Rattle.tftp_ends.specs.declared.send_state.SendState.TheVariants as send
use Rattle.tftp_ends.specs.declared.recv_state.RecvState.{RecvState}
use Rattle.tftp_ends.specs.declared.recv_state.RecvState.TheVariants as recv
use Rattle.tftp_ends.specs.declared.recv_fault.RecvFault.{RecvFault}
use Rattle.tftp_ends.specs.Ends.{Verdict, granted, refused, Sender, SendAnswer, sender_goes_on, sender_acked, sender_ack_in, sender_timeout, IsSender, Receiver, RecvAnswer, receiver_start, receiver_appends, state_after, receiver_takes, receiver_next, receiver_again, is_past, is_last_come, receiver_running, receiver_data_in, receiver_data, receiver_missed, receiver_dallied, receiver_timeout_in, receiver_timeout, IsReceiver}
use Rattle.tftp_ends.proofs.Steps.{sender_ack-keeps, sender_timeout-keeps, IsSender-start, receiver_data-keeps, receiver_timeout-keeps, IsReceiver-start}
use Rattle.tftp_ends.specs.Input.{Input, nothing, stray, refusal, acked, block, input_from_peer, input_from_other, input_of_packet}
use Rattle.archive_client.proofs.Machine.{client_at}
use Rattle.archive_client.specs.Client.{Operation, put, get, Phase, asking, sending, receiving, failed, Client, IsOperation, IsPhase, IsClient, is_over, client_input_decoded, client_input_at, client_input, phase_peer, client_by_input, client_unless_over, client_datagram, client_timeout, asks_again, put_answered, put_waited, get_took, get_answered, get_refused, get_waited, client_input_at_port}
use Rattle.archive_client.specs.View.{IsInput}

-- ---- the body of a received block is no longer than a block

-- the body of a DATA from the peer is no longer than a block
from_peer-short : (p : Packet) → HasPacketFields p → IsInput (input_from_peer p)
from_peer-short (read name mode) fields = tt
from_peer-short (write name mode) fields = tt
from_peer-short (data_block n body) fields = fields.1
from_peer-short (ack n) fields = tt
from_peer-short (error code text) fields = tt

-- what another endpoint sends has no body that counts
from_other-short : (p : Packet) → IsInput (input_from_other p)
from_other-short (read name mode) = tt
from_other-short (write name mode) = tt
from_other-short (data_block n body) = tt
from_other-short (ack n) = tt
from_other-short (error code text) = tt

-- from either
packet-short : (same : Bool) (p : Packet) → HasPacketFields p → IsInput (input_of_packet same p)
packet-short true p fields = from_peer-short p fields
packet-short false p fields = from_other-short p

-- before there is a peer as well
at_port-short : (peer : Option ℕ) (port : ℕ) (p : Packet) → HasPacketFields p → IsInput (client_input_at_port peer port p)
at_port-short None port p fields = from_peer-short p fields
at_port-short (Some peer) port p fields = packet-short (port == peer) p fields

-- if the bytes are decoded as a packet, its body is no longer than a block
decoded-short : (peer : Option ℕ) (port : ℕ) (bytes : List ℕ) (answer : Result Packet PacketFault) → IsBytes bytes → decode_bytes bytes ≡ answer → IsInput (client_input_decoded peer port answer)
decoded-short peer port bytes (Ok p) is e = at_port-short peer port p (decoded_packet bytes p is e).fields
decoded-short peer port bytes (Err fault) is e = tt

-- any bytes from any host mean an input whose body is no longer than a block
at-short : (ours : Bool) (peer : Option ℕ) (port : ℕ) (bytes : List ℕ) → IsBytes bytes → IsInput (client_input_at ours peer port bytes)
at-short true peer port bytes is = decoded-short peer port bytes (decode_bytes bytes) is refl
at-short false peer port bytes is = tt

-- ---- a receiver keeps its file, and gives up only at a time-out

-- a receiver that has its file and has not given up
record HoldsFile (r : Receiver) : Type 0 where
  file : IsSome r.file
  alive : r.state ≢ recv.TimedOut

-- a file that is present stays present as it grows
appends-held : (file : Option (List ℕ)) (body : List ℕ) → IsSome file → IsSome (receiver_appends file body)
appends-held None body there = there
appends-held (Some bytes) body there = refl

-- no block makes a receiver give up
after-alive : (full : Bool) → state_after full ≢ recv.TimedOut
after-alive true = λ e. cc
after-alive false = λ e. cc

-- the next block, whether or not memory was granted
takes-held : (verdict : Verdict) (body : List ℕ) (r : Receiver) → HoldsFile r → HoldsFile (receiver_takes verdict body r).receiver
takes-held granted body r h = record { file = appends-held r.file body h.file; alive = after-alive (length body == BLOCK_SIZE) }
takes-held refused body r h = h

-- the next block, where it may be one too many
next-held : (past : Bool) (verdict : Verdict) (body : List ℕ) (r : Receiver) → HoldsFile r → HoldsFile (receiver_next past verdict body r).receiver
next-held true verdict body r h = h
next-held false verdict body r h = takes-held verdict body r h

-- a block other than the next one
again-held : (last : Bool) (r : Receiver) → HoldsFile r → HoldsFile (receiver_again last r).receiver
again-held true r h = h
again-held false r h = h

-- any block while blocks are missing
running-held : (next : Bool) (verdict : Verdict) (n : ℕ) (body : List ℕ) (r : Receiver) → HoldsFile r → HoldsFile (receiver_running next verdict n body r).receiver
running-held true verdict n body r h = next-held (is_past n body) verdict body r h
running-held false verdict n body r h = again-held (is_last_come n r) r h

in-held : (state : RecvState) (verdict : Verdict) (n : ℕ) (body : List ℕ) (r : Receiver) → HoldsFile r → HoldsFile (receiver_data_in state verdict n body r).receiver
in-held recv.Running verdict n body r h = running-held (n == r.count + 1) verdict n body r h
in-held recv.Complete verdict n body r h = again-held (is_last_come n r) r h
in-held recv.TimedOut verdict n body r h = h
in-held recv.Over verdict n body r h = h

-- a time-out while blocks are missing leaves the file
missed-file : (last : Bool) (r : Receiver) → (receiver_missed last r).receiver.file ≡ r.file
missed-file true r = refl
missed-file false r = refl

-- a time-out while it dallies leaves the file
dallied-file : (last : Bool) (r : Receiver) → (receiver_dallied last r).receiver.file ≡ r.file
dallied-file true r = refl
dallied-file false r = refl

-- no time-out changes the file
timeout-file : (state : RecvState) (r : Receiver) → (receiver_timeout_in state r).receiver.file ≡ r.file
timeout-file recv.Running r = missed-file (r.misses + 1 == MISSES) r
timeout-file recv.Complete r = dallied-file (r.misses + 1 == DALLY) r
timeout-file recv.TimedOut r = refl
timeout-file recv.Over r = refl

-- ---- a sender gives up only at a time-out

-- a sender whose block was acknowledged has not given up
goes_on-alive : (last : Bool) (s : Sender) → (sender_goes_on last s).sender.state ≢ send.TimedOut
goes_on-alive true s = λ e. cc
goes_on-alive false s = λ e. cc

-- no ACK makes a sender give up
acked-alive : (current : Bool) (s : Sender) → s.state ≢ send.TimedOut → (sender_acked current s).sender.state ≢ send.TimedOut
acked-alive true s alive = goes_on-alive _ s
acked-alive false s alive = alive

ack-alive : (state : SendState) (n : ℕ) (s : Sender) → s.state ≢ send.TimedOut → (sender_ack_in state n s).sender.state ≢ send.TimedOut
ack-alive send.Running n s alive = acked-alive (n == s.current) s alive
ack-alive send.Finished n s alive = alive
ack-alive send.TimedOut n s alive = alive

-- ---- a datagram

-- the ACK of a put's request leaves a phase within its bounds
answered-fits : (first : Bool) (port own : ℕ) (server : Endpoint) (file : List ℕ) (misses : ℕ) →
    IsPhase (asking (put file) misses) →
    IsPhase (put_answered first port file (client_at own server (asking (put file) misses))).client.phase
answered-fits true port own server file misses is = record { bounds = IsSender-start file is.0; alive = λ e. cc }
answered-fits false port own server file misses is = is

-- a block that a get received
took-fits : (peer : ℕ) (verdict : Verdict) (n : ℕ) (body : List ℕ) (r : Receiver) (c : Client)
    (answer : Result (Option Packet) RecvFault) → length body ≤ BLOCK_SIZE → IsReceiver r → HoldsFile r →
    IsPhase (get_took peer (receiver_data verdict n body r).receiver answer c).client.phase
took-fits peer verdict n body r c (Ok out) short fits held =
    let h : HoldsFile (receiver_data verdict n body r).receiver = in-held r.state verdict n body r held in
    record { bounds = (receiver_data-keeps verdict n body r short).fits fits; whole = h.file; alive = h.alive }
took-fits peer verdict n body r c (Err e) short fits held = tt

-- the first block, which answers a get's request
first-fits : (first : Bool) (verdict : Verdict) (port n : ℕ) (body : List ℕ) (c : Client) → length body ≤ BLOCK_SIZE → IsPhase c.phase → IsPhase (get_answered first verdict port n body c).client.phase
first-fits true verdict port n body c short is =
    took-fits port verdict n body receiver_start c _ short IsReceiver-start (record { file = refl; alive = λ e. cc })
first-fits false verdict port n body c short is = is

-- an ERROR to a get
refused-fits : (state : RecvState) (code : ℕ) (c : Client) → IsPhase c.phase → IsPhase (get_refused state code c).client.phase
refused-fits recv.Running code c is = tt
refused-fits recv.Complete code c is = is
refused-fits recv.TimedOut code c is = is
refused-fits recv.Over code c is = is

input-fits : (own : ℕ) (server : Endpoint) (phase : Phase) (h : Input) (verdict : Verdict) (port : ℕ) → IsInput h →
    IsPhase phase → IsPhase (client_by_input h verdict port (client_at own server phase)).client.phase
input-fits own server phase nothing verdict port short is = is
input-fits own server phase stray verdict port short is = is
input-fits own server (asking operation misses) (refusal code) verdict port short is = tt
input-fits own server (sending peer s) (refusal code) verdict port short is = tt
input-fits own server (receiving peer r) (refusal code) verdict port short is = refused-fits r.state code (client_at own server (receiving peer r)) is
input-fits own server (failed why) (refusal code) verdict port short is = tt
input-fits own server (asking (put file) misses) (acked n) verdict port short is = answered-fits (n == 0) port own server file misses is
input-fits own server (asking (get rules) misses) (acked n) verdict port short is = is
input-fits own server (sending peer s) (acked n) verdict port short is =
    record { bounds = (sender_ack-keeps n s).fits is.bounds; alive = ack-alive s.state n s is.alive }
input-fits own server (receiving peer r) (acked n) verdict port short is = is
input-fits own server (failed why) (acked n) verdict port short is = tt
input-fits own server (asking (put file) misses) (block n body) verdict port short is = is
input-fits own server (asking (get rules) misses) (block n body) verdict port short is =
    first-fits (n == 1) verdict port n body (client_at own server (asking (get rules) misses)) short is
input-fits own server (sending peer s) (block n body) verdict port short is = is
input-fits own server (receiving peer r) (block n body) verdict port short is =
    took-fits peer verdict n body r (client_at own server (receiving peer r)) _ short is.bounds (record { file = is.whole; alive = is.alive })
input-fits own server (failed why) (block n body) verdict port short is = tt

unless-fits : (over : Bool) (verdict : Verdict) (from : Endpoint) (bytes : List ℕ) (c : Client) → IsBytes bytes → IsPhase c.phase → IsPhase (client_unless_over over verdict from bytes c).client.phase
unless-fits true verdict from bytes c are is = is
unless-fits false verdict from bytes c are is =
    input-fits c.port c.server c.phase (client_input c.server.host (phase_peer c.phase) from bytes) verdict from.port
    (at-short (from.host == c.server.host) (phase_peer c.phase) from.port bytes are) is

-- a datagram keeps the invariant
pub datagram-fits : (verdict : Verdict) (from : Endpoint) (bytes : List ℕ) (c : Client) → IsBytes bytes → IsClient c → IsClient (client_datagram verdict from bytes c).client
datagram-fits verdict from bytes c are is = record { phase = unless-fits (is_over c) verdict from bytes c are is.phase }

-- ---- a time-out

-- a time-out before any answer
asks-fits : (last : Bool) (operation : Operation) (misses : ℕ) (c : Client) → (misses + 1 == MISSES) ≡ last →
    IsPhase (asking operation misses) → IsPhase (asks_again last operation misses c).client.phase
asks-fits true operation misses c is_last is = tt
asks-fits false operation misses c is_last is =
    let other : misses + 1 ≡ MISSES → ⊥ = eqb-false _ _ is_last in
    let patient : misses < MISSES = is.1 in
    (is.0, omega arith)

-- a time-out of a put that is bound
put-waited-fits : (state : SendState) (peer : ℕ) (answer : SendAnswer) (c : Client) → answer.sender.state ≡ state → IsSender answer.sender → IsPhase (put_waited state peer answer c).client.phase
put-waited-fits send.Running peer answer c e bounds = record { bounds = bounds; alive = λ f. cc }
put-waited-fits send.Finished peer answer c e bounds = record { bounds = bounds; alive = λ f. cc }
put-waited-fits send.TimedOut peer answer c e bounds = tt

-- a time-out of a get that is bound
get-waited-fits : (state : RecvState) (peer : ℕ) (answer : RecvAnswer) (c : Client) → answer.receiver.state ≡ state →
    IsReceiver answer.receiver → IsSome answer.receiver.file → IsPhase (get_waited state peer answer c).client.phase
get-waited-fits recv.Running peer answer c e bounds whole = record { bounds = bounds; whole = whole; alive = λ f. cc }
get-waited-fits recv.Complete peer answer c e bounds whole = record { bounds = bounds; whole = whole; alive = λ f. cc }
get-waited-fits recv.TimedOut peer answer c e bounds whole = tt
get-waited-fits recv.Over peer answer c e bounds whole = record { bounds = bounds; whole = whole; alive = λ f. cc }

waits-fits : (own : ℕ) (server : Endpoint) (phase : Phase) → IsPhase phase → IsPhase (client_timeout (client_at own server phase)).client.phase
waits-fits own server (asking operation misses) is =
    asks-fits (misses + 1 == MISSES) operation misses (client_at own server (asking operation misses)) refl is
waits-fits own server (sending peer s) is =
    put-waited-fits _ peer (sender_timeout s) (client_at own server (sending peer s)) refl ((sender_timeout-keeps s).fits is.bounds)
waits-fits own server (receiving peer r) is =
    let there : IsSome (receiver_timeout r).receiver.file = subst (λ f. IsSome f) (sym (timeout-file r.state r)) is.whole in
    get-waited-fits _ peer (receiver_timeout r) (client_at own server (receiving peer r)) refl ((receiver_timeout-keeps r).fits is.bounds) there
waits-fits own server (failed why) is = tt

-- a time-out keeps the invariant
pub timeout-fits : (c : Client) → IsClient c → IsClient (client_timeout c).client
timeout-fits c is = record { phase = waits-fits c.port c.server c.phase is.phase }

-- a new client meets the invariant, if its file is not too long
pub start-fits : (port : ℕ) (server : Endpoint) (operation : Operation) → IsOperation operation → IsClient (client_at port server (asking operation 0))
start-fits port server operation is = record { phase = (is, omega arith) }

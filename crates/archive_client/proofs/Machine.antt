-- What no step of a client does: once it is over nothing changes it, another host never does, and it stays bound to one
-- port. Each lemma takes the parts that a step looks at as separate arguments.
use Rattle.std.proofs.Common.{◌≡◌, ◌≢◌, ℕ, Bool, true, false, List, Option, Result, Ok, Err, refl, ap}
use Rattle.std.proofs.lemmas.Bool.{ne_eqb}
use Rattle.tftp_packet.specs.declared.endpoint.Endpoint.{Endpoint}
use Rattle.tftp_packet.specs.Packet.{Packet}
use Rattle.tftp_ends.specs.declared.send_state.SendState.{SendState}
use Rattle.tftp_ends.specs.declared.send_state.SendState.TheVariants as send
use Rattle.tftp_ends.specs.declared.recv_state.RecvState.{RecvState}
use Rattle.tftp_ends.specs.declared.recv_state.RecvState.TheVariants as recv
use Rattle.tftp_ends.specs.declared.recv_fault.RecvFault.{RecvFault}
use Rattle.tftp_ends.specs.Ends.{Verdict, Sender, SendAnswer, Receiver, RecvAnswer, sender_timeout, receiver_data, receiver_timeout}
use Rattle.tftp_ends.specs.Input.{Input, nothing, stray, refusal, acked, block}
use Rattle.archive_client.specs.Client.{Phase, asking, sending, receiving, failed, Client, IsClient, IsPhase, IsBoundTo, IsBoundToStill, is_over, is_phase_over, is_send_over, is_recv_over, client_stays, client_input, client_input_at, phase_peer, client_by_input, client_unless_over, client_datagram, client_timeout, phase_waits, get_took, get_refused, put_waited, get_waited}

-- a client with these parts
abbrev pub client_at : (port : ℕ) → Endpoint → Phase → Client
client_at port server phase = record { port = port; server = server; phase = phase }

-- ---- once it is over

-- no datagram changes a client that is over
pub over-datagram : (verdict : Verdict) (from : Endpoint) (bytes : List ℕ) (c : Client) → is_over c ≡ true → client_datagram verdict from bytes c ≡ client_stays c
over-datagram verdict from bytes c over = ap (λ (b : Bool). client_unless_over b verdict from bytes c) over

-- a put that is over: no time-out changes it
sender-over : (port : ℕ) (server : Endpoint) (peer : ℕ) (file : List ℕ) (current misses : ℕ) (state : SendState) → state ≢ send.TimedOut → is_send_over state ≡ true →
    let s : Sender = record { file = file; current = current; misses = misses; state = state } in
    client_timeout (client_at port server (sending peer s)) ≡ client_stays (client_at port server (sending peer s))
sender-over port server peer file current misses send.Running alive over = cc
sender-over port server peer file current misses send.Finished alive over = refl
sender-over port server peer file current misses send.TimedOut alive over = absurd (alive refl)

-- a get that is over: no time-out changes it
receiver-over : (port : ℕ) (server : Endpoint) (peer : ℕ) (count : ℕ) (file : Option (List ℕ)) (misses : ℕ) (state : RecvState) → state ≢ recv.TimedOut → is_recv_over state ≡ true →
    let r : Receiver = record { count = count; file = file; misses = misses; state = state } in
    client_timeout (client_at port server (receiving peer r)) ≡ client_stays (client_at port server (receiving peer r))
receiver-over port server peer count file misses recv.Running alive over = cc
receiver-over port server peer count file misses recv.Complete alive over = cc
receiver-over port server peer count file misses recv.TimedOut alive over = absurd (alive refl)
receiver-over port server peer count file misses recv.Over alive over = refl

phase-over : (port : ℕ) (server : Endpoint) (phase : Phase) → IsPhase phase → is_phase_over phase ≡ true → client_timeout (client_at port server phase) ≡ client_stays (client_at port server phase)
phase-over port server (asking operation misses) is over = cc
phase-over port server (sending peer s) is over = sender-over port server peer s.file s.current s.misses s.state is.alive over
phase-over port server (receiving peer r) is over = receiver-over port server peer r.count r.file r.misses r.state is.alive over
phase-over port server (failed why) is over = refl

-- no time-out changes a client that is over
pub over-timeout : (c : Client) → IsClient c → is_over c ≡ true → client_timeout c ≡ client_stays c
over-timeout c is over = phase-over c.port c.server c.phase is.phase over

-- ---- another host

-- a datagram without effect leaves the client unchanged
inputs-nothing : (over : Bool) (verdict : Verdict) (from : Endpoint) (bytes : List ℕ) (c : Client) →
    client_input c.server.host (phase_peer c.phase) from bytes ≡ nothing →
    client_unless_over over verdict from bytes c ≡ client_stays c
inputs-nothing true verdict from bytes c is_nothing = refl
inputs-nothing false verdict from bytes c is_nothing = ap (λ (h : Input). client_by_input h verdict from.port c) is_nothing

-- a datagram from another host leaves the client unchanged
pub other-host : (verdict : Verdict) (from : Endpoint) (bytes : List ℕ) (c : Client) → from.host ≢ c.server.host → client_datagram verdict from bytes c ≡ client_stays c
other-host verdict from bytes c other =
    inputs-nothing (is_over c) verdict from bytes c
    (ap (λ (b : Bool). client_input_at b (phase_peer c.phase) from.port bytes) (ne_eqb from.host c.server.host other))

-- ---- one port

-- a client that is bound to a port is bound to it, or has failed
bound-still : (port : ℕ) (phase : Phase) → IsBoundTo port phase → IsBoundToStill port phase
bound-still port (asking operation misses) bound = bound
bound-still port (sending peer s) bound = bound
bound-still port (receiving peer r) bound = bound
bound-still port (failed why) bound = tt

-- a block that is received, or refused
took-still : (port peer : ℕ) (r : Receiver) (result : Result (Option Packet) RecvFault) (c : Client) → peer ≡ port → IsBoundToStill port (get_took peer r result c).client.phase
took-still port peer r (Ok out) c bound = bound
took-still port peer r (Err e) c bound = tt

-- an ERROR
refused-still : (port : ℕ) (state : RecvState) (code : ℕ) (c : Client) → IsBoundToStill port c.phase → IsBoundToStill port (get_refused state code c).client.phase
refused-still port recv.Running code c bound = tt
refused-still port recv.Complete code c bound = bound
refused-still port recv.TimedOut code c bound = bound
refused-still port recv.Over code c bound = bound

input-still : (port : ℕ) (own : ℕ) (server : Endpoint) (phase : Phase) (h : Input) (verdict : Verdict) (from : ℕ) →
    IsBoundTo port phase → IsBoundToStill port (client_by_input h verdict from (client_at own server phase)).client.phase
input-still port own server phase nothing verdict from bound = bound-still port phase bound
input-still port own server phase stray verdict from bound = bound-still port phase bound
input-still port own server (asking operation misses) (refusal code) verdict from bound = tt
input-still port own server (sending peer s) (refusal code) verdict from bound = tt
input-still port own server (receiving peer r) (refusal code) verdict from bound = refused-still port r.state code (client_at own server (receiving peer r)) bound
input-still port own server (failed why) (refusal code) verdict from bound = tt
input-still port own server (asking operation misses) (acked n) verdict from bound = absurd bound
input-still port own server (sending peer s) (acked n) verdict from bound = bound
input-still port own server (receiving peer r) (acked n) verdict from bound = bound
input-still port own server (failed why) (acked n) verdict from bound = tt
input-still port own server (asking operation misses) (block n body) verdict from bound = absurd bound
input-still port own server (sending peer s) (block n body) verdict from bound = bound
input-still port own server (receiving peer r) (block n body) verdict from bound =
    took-still port peer (receiver_data verdict n body r).receiver (receiver_data verdict n body r).result (client_at own server (receiving peer r)) bound
input-still port own server (failed why) (block n body) verdict from bound = tt

unless-still : (over : Bool) (verdict : Verdict) (from : Endpoint) (bytes : List ℕ) (c : Client) (port : ℕ) →
    IsBoundTo port c.phase → IsBoundToStill port (client_unless_over over verdict from bytes c).client.phase
unless-still true verdict from bytes c port bound = bound-still port c.phase bound
unless-still false verdict from bytes c port bound =
    input-still port c.port c.server c.phase (client_input c.server.host (phase_peer c.phase) from bytes) verdict from.port bound

-- after any datagram a bound client is bound to the same port, or has failed
pub datagram-still : (verdict : Verdict) (from : Endpoint) (bytes : List ℕ) (c : Client) (port : ℕ) → IsBoundTo port c.phase → IsBoundToStill port (client_datagram verdict from bytes c).client.phase
datagram-still verdict from bytes c port bound = unless-still (is_over c) verdict from bytes c port bound

-- a time-out of a put
put-waited-still : (port peer : ℕ) (state : SendState) (answer : SendAnswer) (c : Client) → peer ≡ port → IsBoundToStill port (put_waited state peer answer c).client.phase
put-waited-still port peer send.Running answer c bound = bound
put-waited-still port peer send.Finished answer c bound = bound
put-waited-still port peer send.TimedOut answer c bound = tt

-- a time-out of a get
get-waited-still : (port peer : ℕ) (state : RecvState) (answer : RecvAnswer) (c : Client) → peer ≡ port → IsBoundToStill port (get_waited state peer answer c).client.phase
get-waited-still port peer recv.Running answer c bound = bound
get-waited-still port peer recv.Complete answer c bound = bound
get-waited-still port peer recv.TimedOut answer c bound = tt
get-waited-still port peer recv.Over answer c bound = bound

waits-still : (port : ℕ) (phase : Phase) (c : Client) → IsBoundTo port phase → IsBoundToStill port (phase_waits phase c).client.phase
waits-still port (asking operation misses) c bound = absurd bound
waits-still port (sending peer s) c bound = put-waited-still port peer (sender_timeout s).sender.state (sender_timeout s) c bound
waits-still port (receiving peer r) c bound = get-waited-still port peer (receiver_timeout r).receiver.state (receiver_timeout r) c bound
waits-still port (failed why) c bound = absurd bound

-- after a time-out a bound client is bound to the same port, or has failed
pub timeout-still : (c : Client) (port : ℕ) → IsBoundTo port c.phase → IsBoundToStill port (client_timeout c).client.phase
timeout-still c port bound = waits-still port c.phase c bound

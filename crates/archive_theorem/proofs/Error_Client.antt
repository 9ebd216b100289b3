-- Which steps make a client fail by an ERROR, what they send, and that a client which has failed or fetched stays so.
use Rattle.std.proofs.Common.{◌≡◌, ◌⊎◌, ℕ, ◌+◌, Bool, true, false, ◌==◌, List, Option, None, Some, IfSome, Result, Ok, Err, refl, ap, sym, ◌∙◌, subst, inl, inr}
use Rattle.std.proofs.lemmas.Bool.{eqb-true}
use Rattle.tftp_packet.specs.declared.endpoint.Endpoint.{Endpoint}
use Rattle.tftp_packet.specs.declared.packet_fault.PacketFault.{PacketFault}
use Rattle.tftp_packet.specs.declared.cause.Cause.{Cause}
use Rattle.tftp_packet.specs.declared.cause.Cause.TheVariants as cause
use Rattle.tftp_packet.specs.Packet.{Packet, read, write, data_block, ack, error}
use Rattle.tftp_packet.specs.Decode.{decode_bytes}
use Rattle.tftp_ends.specs.declared.limits.TheConstants.{MISSES, DALLY}
use Rattle.tftp_ends.specs.declared.send_state.SendState.{SendState}
use Rattle.tftp_ends.specs.declared.send_state.SendState.TheVariants as send
use Rattle.tftp_ends.specs.declared.recv_state.RecvState.{RecvState}
use Rattle.tftp_ends.specs.declared.recv_state.RecvState.TheVariants as recv
use Rattle.tftp_ends.specs.declared.recv_fault.RecvFault.{RecvFault}
use Rattle.tftp_ends.specs.declared.recv_fault.RecvFault.TheVariants as fault
use Rattle.tftp_ends.specs.Input.{Input, nothing, stray, refusal, acked, block, input_from_peer, input_from_other, input_of_packet}
use Rattle.tftp_ends.specs.Ends.{Verdict, SendAnswer, sender_ack, sender_timeout, Receiver, RecvAnswer, receiver_start, receiver_data, receiver_data_in, receiver_again, is_last_come, receiver_timeout, receiver_timeout_in, receiver_dallied}
use Rattle.tws_file.specs.declared.«ruleset».Ruleset.{Ruleset}
use Rattle.archive_client.specs.declared.state.State.{State}
use Rattle.archive_client.specs.declared.state.State.TheVariants as state
use Rattle.archive_client.specs.Client.{Operation, put, get, Phase, asking, sending, receiving, failed, Client, ClientAnswer, is_over, client_stays, client_input, client_input_at, client_input_at_port, client_input_decoded, phase_peer, client_by_input, client_unless_over, client_datagram, client_timeout, phase_waits, asks_again, put_answered, put_waited, get_took, get_sent, get_answered, get_refused, get_waited, cause_of, state_of, phase_state, send_state, recv_state, sends_to}
use Rattle.archive_client.proofs.Machine.{client_at, over-datagram}
use Rattle.archive_model.specs.World.{newly_got}
use Rattle.archive_theorem.proofs.Claim_Past.{MayBind}

-- ---- what an ERROR is for a client

-- from the port that the client is bound to, if it is bound
abbrev FromPeer : Option ℕ → (port : ℕ) → Type 0
FromPeer None port = Unit {0}
FromPeer (Some peer) port = port ≡ peer

-- an ERROR with this code from the host
record IsError (code host : ℕ) (peer : Option ℕ) (from : Endpoint) (bytes : List ℕ) : Type 0 where
  ours : from.host ≡ host
  text : List ℕ
  reads : decode_bytes bytes ≡ Ok (error code text)
  at : FromPeer peer from.port

same_error : (n m : ℕ) (text : List ℕ) (bytes : List ℕ) → decode_bytes bytes ≡ Ok (error n text) → refusal n ≡ refusal m →
    decode_bytes bytes ≡ Ok (error m text)
same_error n m text bytes reads same = let one : n ≡ m = cc in reads ∙ ap (λ (k : ℕ). Ok (error k text)) one

module _ (code host : ℕ) (from : Endpoint) (bytes : List ℕ) (ours : from.host ≡ host) where
  peer_error : (peer : Option ℕ) (p : Packet) → decode_bytes bytes ≡ Ok p → FromPeer peer from.port → input_from_peer p ≡ refusal code →
      IsError code host peer from bytes
  peer_error peer (read name mode) reads at is = absurd cc
  peer_error peer (write name mode) reads at is = absurd cc
  peer_error peer (data_block n body) reads at is = absurd cc
  peer_error peer (ack n) reads at is = absurd cc
  peer_error peer (error n text) reads at is = record { ours = ours; text = text; reads = same_error n code text bytes reads is; at = at }

  other_error : {P : Type 0} (p : Packet) → input_from_other p ≡ refusal code → P
  other_error (read name mode) is = absurd cc
  other_error (write name mode) is = absurd cc
  other_error (data_block n body) is = absurd cc
  other_error (ack n) is = absurd cc
  other_error (error n text) is = absurd cc

  packet_error : (peer : ℕ) (same : Bool) (p : Packet) → (from.port == peer) ≡ same → decode_bytes bytes ≡ Ok p → input_of_packet same p ≡ refusal code →
      IsError code host (Some peer) from bytes
  packet_error peer true p at reads is = peer_error (Some peer) p reads (eqb-true _ _ at) is
  packet_error peer false p at reads is = other_error p is

  at_error : (peer : Option ℕ) (p : Packet) → decode_bytes bytes ≡ Ok p → client_input_at_port peer from.port p ≡ refusal code →
      IsError code host peer from bytes
  at_error None p reads is = peer_error None p reads tt is
  at_error (Some peer) p reads is = packet_error peer (from.port == peer) p refl reads is

  decoded_error : (peer : Option ℕ) (answer : Result Packet PacketFault) → decode_bytes bytes ≡ answer →
      client_input_decoded peer from.port answer ≡ refusal code →
      IsError code host peer from bytes
  decoded_error peer (Ok p) reads is = at_error peer p reads is
  decoded_error peer (Err e) reads is = absurd cc

input_error_at : (code host : ℕ) (peer : Option ℕ) (from : Endpoint) (bytes : List ℕ) (ours : Bool) → (from.host == host) ≡ ours →
    client_input_at ours peer from.port bytes ≡ refusal code → IsError code host peer from bytes
input_error_at code host peer from bytes true at is = decoded_error code host from bytes (eqb-true _ _ at) peer (decode_bytes bytes) refl is
input_error_at code host peer from bytes false at is = absurd cc

input_error : (code host : ℕ) (peer : Option ℕ) (from : Endpoint) (bytes : List ℕ) → client_input host peer from bytes ≡ refusal code →
    IsError code host peer from bytes
input_error code host peer from bytes is = input_error_at code host peer from bytes (from.host == host) refl is

-- ---- a client that fails by an ERROR

-- The ERROR came from the only port to which the client has sent a DATA or an ACK, and the client sends nothing.
pub record Fails (code : ℕ) (from : Endpoint) (bytes : List ℕ) (c : Client) (a : ClientAnswer) : Type 0 where
  pub ours : from.host ≡ c.server.host
  pub text : List ℕ
  pub reads : decode_bytes bytes ≡ Ok (error code text)
  pub at : (port : ℕ) → MayBind c.phase port → port ≡ from.port
  pub quiet : a.out ≡ None

-- it had failed, or fails now
abbrev HasOrFails : (code : ℕ) → Endpoint → List ℕ → Client → ClientAnswer → Type 0
HasOrFails code from bytes c a = a.client.phase ≡ failed (cause.Refused code) → (c.phase ≡ failed (cause.Refused code)) ⊎ Fails code from bytes c a

stays_failed : (code : ℕ) (from : Endpoint) (bytes : List ℕ) (c : Client) → HasOrFails code from bytes c (client_stays c)
stays_failed code from bytes c is = inl is

cause_other : {P : Type 0} (e : RecvFault) (code : ℕ) → failed (cause_of e) ≡ failed (cause.Refused code) → P
cause_other fault.Memory code is = absurd cc
cause_other fault.TooLong code is = absurd cc

one_code : (n code : ℕ) → failed (cause.Refused n) ≡ failed (cause.Refused code) → n ≡ code
one_code n code is = cc

took_failed : {P : Type 0} (peer : ℕ) (r : Receiver) (result : Result (Option Packet) RecvFault) (c : Client) (code : ℕ) →
    (get_took peer r result c).client.phase ≡ failed (cause.Refused code) → P
took_failed peer r (Ok out) c code is = absurd cc
took_failed peer r (Err e) c code is = cause_other e code is

module _ (code : ℕ) (from : Endpoint) (bytes : List ℕ) (port : ℕ) (server : Endpoint) where
  abbrev at_phase : Phase → Client
  at_phase phase = client_at port server phase

  put_failed : (first : Bool) (to : ℕ) (file : List ℕ) (misses : ℕ) →
      HasOrFails code from bytes (at_phase (asking (put file) misses)) (put_answered first to file (at_phase (asking (put file) misses)))
  put_failed true to file misses is = absurd cc
  put_failed false to file misses is = inl is

  get_failed : (first : Bool) (verdict : Verdict) (to n : ℕ) (body : List ℕ) (rules : Ruleset) (misses : ℕ) →
      HasOrFails code from bytes (at_phase (asking (get rules) misses)) (get_answered first verdict to n body (at_phase (asking (get rules) misses)))
  get_failed true verdict to n body rules misses is =
      let a = receiver_data verdict n body receiver_start in
      took_failed to a.receiver a.result (at_phase (asking (get rules) misses)) code is
  get_failed false verdict to n body rules misses is = inl is

  -- the ERROR fails the client
  refused_in : (n : ℕ) (phase : Phase) → IsError n server.host (phase_peer phase) from bytes → ((q : ℕ) → MayBind phase q → q ≡ from.port) →
      failed (cause.Refused n) ≡ failed (cause.Refused code) →
      Fails code from bytes (at_phase phase) (record { client = at_phase (failed (cause.Refused n)); out = None })
  refused_in n phase e at is =
      record {
        ours = e.ours;
        text = e.text;
        reads = e.reads ∙ ap (λ (k : ℕ). Ok (error k e.text)) (one_code n code is);
        at = at;
        quiet = refl;
      }

  refused_receiving : (state : RecvState) (n peer : ℕ) (r : Receiver) → IsError n server.host (Some peer) from bytes →
      HasOrFails code from bytes (at_phase (receiving peer r)) (get_refused state n (at_phase (receiving peer r)))
  refused_receiving recv.Running n peer r e is = inr (refused_in n (receiving peer r) e (λ q may. may ∙ sym e.at) is)
  refused_receiving recv.Complete n peer r e is = inl is
  refused_receiving recv.TimedOut n peer r e is = inl is
  refused_receiving recv.Over n peer r e is = inl is

  input_failed : (phase : Phase) (x : Input) → client_input server.host (phase_peer phase) from bytes ≡ x → (verdict : Verdict) →
      HasOrFails code from bytes (at_phase phase) (client_by_input x verdict from.port (at_phase phase))
  input_failed phase nothing is verdict = stays_failed code from bytes (at_phase phase)
  input_failed phase stray is verdict = λ same. inl same
  input_failed (asking operation misses) (refusal n) is verdict =
      λ same. inr (refused_in n (asking operation misses) (input_error n server.host None from bytes is) (λ q may. absurd may) same)
  input_failed (sending peer s) (refusal n) is verdict =
      let e = input_error n server.host (Some peer) from bytes is in
      λ same. inr (refused_in n (sending peer s) e (λ q may. may ∙ sym e.at) same)
  input_failed (receiving peer r) (refusal n) is verdict = refused_receiving r.state n peer r (input_error n server.host (Some peer) from bytes is)
  input_failed (failed why) (refusal n) is verdict = stays_failed code from bytes (at_phase (failed why))
  input_failed (asking (put file) misses) (acked n) is verdict = put_failed (n == 0) from.port file misses
  input_failed (asking (get rules) misses) (acked n) is verdict = stays_failed code from bytes (at_phase (asking (get rules) misses))
  input_failed (sending peer s) (acked n) is verdict = λ same. absurd cc
  input_failed (receiving peer r) (acked n) is verdict = stays_failed code from bytes (at_phase (receiving peer r))
  input_failed (failed why) (acked n) is verdict = stays_failed code from bytes (at_phase (failed why))
  input_failed (asking (put file) misses) (block n body) is verdict = stays_failed code from bytes (at_phase (asking (put file) misses))
  input_failed (asking (get rules) misses) (block n body) is verdict = get_failed (n == 1) verdict from.port n body rules misses
  input_failed (sending peer s) (block n body) is verdict = stays_failed code from bytes (at_phase (sending peer s))
  input_failed (receiving peer r) (block n body) is verdict =
      let a = receiver_data verdict n body r in
      λ same. took_failed peer a.receiver a.result (at_phase (receiving peer r)) code same
  input_failed (failed why) (block n body) is verdict = stays_failed code from bytes (at_phase (failed why))

unless_failed : (code : ℕ) (over : Bool) (verdict : Verdict) (from : Endpoint) (bytes : List ℕ) (c : Client) →
    HasOrFails code from bytes c (client_unless_over over verdict from bytes c)
unless_failed code true verdict from bytes c = stays_failed code from bytes c
unless_failed code false verdict from bytes c =
    input_failed code from bytes c.port c.server c.phase (client_input c.server.host (phase_peer c.phase) from bytes) refl verdict

-- a datagram after which a client has failed by an ERROR is that ERROR, or the client had failed
pub datagram-fails : (code : ℕ) (verdict : Verdict) (from : Endpoint) (bytes : List ℕ) (c : Client) →
    (client_datagram verdict from bytes c).client.phase ≡ failed (cause.Refused code) →
    (c.phase ≡ failed (cause.Refused code)) ⊎ Fails code from bytes c (client_datagram verdict from bytes c)
datagram-fails code verdict from bytes c = unless_failed code (is_over c) verdict from bytes c

-- ---- a time-out

asks_failed : {P : Type 0} (last : Bool) (operation : Operation) (misses : ℕ) (c : Client) (code : ℕ) →
    (asks_again last operation misses c).client.phase ≡ failed (cause.Refused code) → P
asks_failed true operation misses c code is = absurd cc
asks_failed false operation misses c code is = absurd cc

put_waits_failed : {P : Type 0} (at : SendState) (peer : ℕ) (a : SendAnswer) (c : Client) (code : ℕ) →
    (put_waited at peer a c).client.phase ≡ failed (cause.Refused code) → P
put_waits_failed send.Running peer a c code is = absurd cc
put_waits_failed send.Finished peer a c code is = absurd cc
put_waits_failed send.TimedOut peer a c code is = absurd cc

get_waits_failed : {P : Type 0} (at : RecvState) (peer : ℕ) (a : RecvAnswer) (c : Client) (code : ℕ) →
    (get_waited at peer a c).client.phase ≡ failed (cause.Refused code) → P
get_waits_failed recv.Running peer a c code is = absurd cc
get_waits_failed recv.Complete peer a c code is = absurd cc
get_waits_failed recv.TimedOut peer a c code is = absurd cc
get_waits_failed recv.Over peer a c code is = absurd cc

waits_failed : (code port : ℕ) (server : Endpoint) (phase : Phase) → (client_timeout (client_at port server phase)).client.phase ≡ failed (cause.Refused code) →
    phase ≡ failed (cause.Refused code)
waits_failed code port server (asking operation misses) is =
    asks_failed (misses + 1 == MISSES) operation misses (client_at port server (asking operation misses)) code is
waits_failed code port server (sending peer s) is =
    put_waits_failed (sender_timeout s).sender.state peer (sender_timeout s) (client_at port server (sending peer s)) code is
waits_failed code port server (receiving peer r) is =
    get_waits_failed (receiver_timeout r).receiver.state peer (receiver_timeout r) (client_at port server (receiving peer r)) code is
waits_failed code port server (failed why) is = is

-- a client that has failed by an ERROR after a time-out had failed before
pub timeout-fails : (code : ℕ) (c : Client) → (client_timeout c).client.phase ≡ failed (cause.Refused code) → c.phase ≡ failed (cause.Refused code)
timeout-fails code c is = waits_failed code c.port c.server c.phase is

-- ---- a client that has failed

phase_over : (c : Client) (why : Cause) → c.phase ≡ failed why → is_over c ≡ true
phase_over c why is = ap (λ (p : Phase). is_over (client_at c.port c.server p)) is

pub failed-datagram : (why : Cause) (verdict : Verdict) (from : Endpoint) (bytes : List ℕ) (c : Client) → c.phase ≡ failed why →
    client_datagram verdict from bytes c ≡ client_stays c
failed-datagram why verdict from bytes c is = over-datagram verdict from bytes c (phase_over c why is)

pub failed-timeout : (why : Cause) (c : Client) → c.phase ≡ failed why → client_timeout c ≡ client_stays c
failed-timeout why c is = ap (λ (p : Phase). phase_waits p c) is

-- ---- a client that has fetched

sent_other : {P : Type 0} (at : SendState) → send_state at ≡ state.Got → P
sent_other send.Running is = absurd cc
sent_other send.Finished is = absurd cc
sent_other send.TimedOut is = absurd cc

refused_got : (at : RecvState) (code : ℕ) (c : Client) → state_of c ≡ state.Got → recv_state at ≡ state.Got →
    state_of (get_refused at code c).client ≡ state.Got
refused_got recv.Running code c got is = absurd cc
refused_got recv.Complete code c got is = got
refused_got recv.TimedOut code c got is = absurd cc
refused_got recv.Over code c got is = got

again_got : (last : Bool) (peer : ℕ) (r : Receiver) (c : Client) → recv_state r.state ≡ state.Got →
    state_of (get_sent peer (receiver_again last r) c).client ≡ state.Got
again_got true peer r c is = is
again_got false peer r c is = is

block_got : (at : RecvState) (verdict : Verdict) (n : ℕ) (body : List ℕ) (peer : ℕ) (r : Receiver) (c : Client) → recv_state r.state ≡ state.Got →
    r.state ≡ at →
    state_of (get_sent peer (receiver_data_in at verdict n body r) c).client ≡ state.Got
block_got recv.Running verdict n body peer r c is at = let both : state.Running ≡ state.Got = sym (ap recv_state at) ∙ is in absurd cc
block_got recv.Complete verdict n body peer r c is at = again_got (is_last_come n r) peer r c is
block_got recv.TimedOut verdict n body peer r c is at = is
block_got recv.Over verdict n body peer r c is at = is

input_got : (port : ℕ) (server : Endpoint) (phase : Phase) (x : Input) (verdict : Verdict) (from : ℕ) → phase_state phase ≡ state.Got →
    state_of (client_by_input x verdict from (client_at port server phase)).client ≡ state.Got
input_got port server phase nothing verdict from is = is
input_got port server phase stray verdict from is = is
input_got port server (asking operation misses) (refusal n) verdict from is = absurd cc
input_got port server (sending peer s) (refusal n) verdict from is = sent_other s.state is
input_got port server (receiving peer r) (refusal n) verdict from is = refused_got r.state n (client_at port server (receiving peer r)) is is
input_got port server (failed why) (refusal n) verdict from is = is
input_got port server (asking operation misses) (acked n) verdict from is = absurd cc
input_got port server (sending peer s) (acked n) verdict from is = sent_other s.state is
input_got port server (receiving peer r) (acked n) verdict from is = is
input_got port server (failed why) (acked n) verdict from is = is
input_got port server (asking operation misses) (block n body) verdict from is = absurd cc
input_got port server (sending peer s) (block n body) verdict from is = is
input_got port server (receiving peer r) (block n body) verdict from is =
    block_got r.state verdict n body peer r (client_at port server (receiving peer r)) is refl
input_got port server (failed why) (block n body) verdict from is = is

unless_got : (over : Bool) (verdict : Verdict) (from : Endpoint) (bytes : List ℕ) (c : Client) → state_of c ≡ state.Got →
    state_of (client_unless_over over verdict from bytes c).client ≡ state.Got
unless_got true verdict from bytes c is = is
unless_got false verdict from bytes c is =
    input_got c.port c.server c.phase (client_input c.server.host (phase_peer c.phase) from bytes) verdict from.port is

-- what has fetched stays so after a datagram
pub datagram-got : (verdict : Verdict) (from : Endpoint) (bytes : List ℕ) (c : Client) → state_of c ≡ state.Got →
    state_of (client_datagram verdict from bytes c).client ≡ state.Got
datagram-got verdict from bytes c is = unless_got (is_over c) verdict from bytes c is

dallied_got : (last : Bool) (peer : ℕ) (r : Receiver) (c : Client) →
    state_of (get_waited (receiver_dallied last r).receiver.state peer (receiver_dallied last r) c).client ≡ state.Got
dallied_got true peer r c = refl
dallied_got false peer r c = refl

waits_got_in : (at : RecvState) (peer : ℕ) (r : Receiver) (c : Client) → r.state ≡ at → recv_state r.state ≡ state.Got →
    state_of (get_waited (receiver_timeout_in at r).receiver.state peer (receiver_timeout_in at r) c).client ≡ state.Got
waits_got_in recv.Running peer r c at is = let both : state.Running ≡ state.Got = sym (ap recv_state at) ∙ is in absurd cc
waits_got_in recv.Complete peer r c at is = dallied_got (r.misses + 1 == DALLY) peer r c
waits_got_in recv.TimedOut peer r c at is =
    let both : state.Failed cause.TimedOut ≡ state.Got = sym (ap recv_state at) ∙ is in absurd cc
waits_got_in recv.Over peer r c at is =
    subst (λ (x : RecvState). state_of (get_waited x peer (record { receiver = r; out = None }) c).client ≡ state.Got) (sym at) is

waits_got : (port : ℕ) (server : Endpoint) (phase : Phase) → phase_state phase ≡ state.Got →
    state_of (client_timeout (client_at port server phase)).client ≡ state.Got
waits_got port server (asking operation misses) is = absurd cc
waits_got port server (sending peer s) is = sent_other s.state is
waits_got port server (receiving peer r) is = waits_got_in r.state peer r (client_at port server (receiving peer r)) refl is
waits_got port server (failed why) is = absurd cc

-- and after a time-out
pub timeout-got : (c : Client) → state_of c ≡ state.Got → state_of (client_timeout c).client ≡ state.Got
timeout-got c is = waits_got c.port c.server c.phase is

-- a client that fetches now has fetched
pub newly-got : (was now : State) → newly_got was now ≡ true → now ≡ state.Got
newly-got state.Running state.Running is = absurd cc
newly-got state.Running state.Sent is = absurd cc
newly-got state.Running state.Got is = refl
newly-got state.Running (state.Failed why) is = absurd cc
newly-got state.Sent now is = absurd cc
newly-got state.Got now is = absurd cc
newly-got (state.Failed why) now is = absurd cc

-- ---- what a client sends is from its own port

sends_own : (port : ℕ) (packet : Option Packet) (c : Client) → IfSome (sends_to port packet c) (λ o. o.from_port ≡ c.port)
sends_own port None c = tt
sends_own port (Some packet) c = refl

took_own : (peer : ℕ) (r : Receiver) (result : Result (Option Packet) RecvFault) (c : Client) →
    IfSome (get_took peer r result c).out (λ o. o.from_port ≡ c.port)
took_own peer r (Ok out) c = sends_own peer out c
took_own peer r (Err e) c = refl

put_own : (first : Bool) (to : ℕ) (file : List ℕ) (c : Client) → IfSome (put_answered first to file c).out (λ o. o.from_port ≡ c.port)
put_own true to file c = refl
put_own false to file c = tt

get_own : (first : Bool) (verdict : Verdict) (to n : ℕ) (body : List ℕ) (c : Client) →
    IfSome (get_answered first verdict to n body c).out (λ o. o.from_port ≡ c.port)
get_own true verdict to n body c = took_own to (receiver_data verdict n body receiver_start).receiver (receiver_data verdict n body receiver_start).result c
get_own false verdict to n body c = tt

refused_own : (at : RecvState) (code : ℕ) (c : Client) → IfSome (get_refused at code c).out (λ o. o.from_port ≡ c.port)
refused_own recv.Running code c = tt
refused_own recv.Complete code c = tt
refused_own recv.TimedOut code c = tt
refused_own recv.Over code c = tt

input_own : (port : ℕ) (server : Endpoint) (phase : Phase) (x : Input) (verdict : Verdict) (from : ℕ) →
    IfSome (client_by_input x verdict from (client_at port server phase)).out (λ o. o.from_port ≡ port)
input_own port server phase nothing verdict from = tt
input_own port server phase stray verdict from = refl
input_own port server (asking operation misses) (refusal n) verdict from = tt
input_own port server (sending peer s) (refusal n) verdict from = tt
input_own port server (receiving peer r) (refusal n) verdict from = refused_own r.state n (client_at port server (receiving peer r))
input_own port server (failed why) (refusal n) verdict from = tt
input_own port server (asking (put file) misses) (acked n) verdict from = put_own (n == 0) from file (client_at port server (asking (put file) misses))
input_own port server (asking (get rules) misses) (acked n) verdict from = tt
input_own port server (sending peer s) (acked n) verdict from = sends_own peer (sender_ack n s).out (client_at port server (sending peer s))
input_own port server (receiving peer r) (acked n) verdict from = tt
input_own port server (failed why) (acked n) verdict from = tt
input_own port server (asking (put file) misses) (block n body) verdict from = tt
input_own port server (asking (get rules) misses) (block n body) verdict from =
    get_own (n == 1) verdict from n body (client_at port server (asking (get rules) misses))
input_own port server (sending peer s) (block n body) verdict from = tt
input_own port server (receiving peer r) (block n body) verdict from =
    let a = receiver_data verdict n body r in
    took_own peer a.receiver a.result (client_at port server (receiving peer r))
input_own port server (failed why) (block n body) verdict from = tt

unless_own : (over : Bool) (verdict : Verdict) (from : Endpoint) (bytes : List ℕ) (c : Client) →
    IfSome (client_unless_over over verdict from bytes c).out (λ o. o.from_port ≡ c.port)
unless_own true verdict from bytes c = tt
unless_own false verdict from bytes c =
    input_own c.port c.server c.phase (client_input c.server.host (phase_peer c.phase) from bytes) verdict from.port

pub datagram-own : (verdict : Verdict) (from : Endpoint) (bytes : List ℕ) (c : Client) →
    IfSome (client_datagram verdict from bytes c).out (λ o. o.from_port ≡ c.port)
datagram-own verdict from bytes c = unless_own (is_over c) verdict from bytes c

asks_own : (last : Bool) (operation : Operation) (misses : ℕ) (c : Client) → IfSome (asks_again last operation misses c).out (λ o. o.from_port ≡ c.port)
asks_own true operation misses c = tt
asks_own false operation misses c = refl

put_waits_own : (at : SendState) (peer : ℕ) (a : SendAnswer) (c : Client) → IfSome (put_waited at peer a c).out (λ o. o.from_port ≡ c.port)
put_waits_own send.Running peer a c = sends_own peer a.out c
put_waits_own send.Finished peer a c = sends_own peer a.out c
put_waits_own send.TimedOut peer a c = tt

get_waits_own : (at : RecvState) (peer : ℕ) (a : RecvAnswer) (c : Client) → IfSome (get_waited at peer a c).out (λ o. o.from_port ≡ c.port)
get_waits_own recv.Running peer a c = sends_own peer a.out c
get_waits_own recv.Complete peer a c = sends_own peer a.out c
get_waits_own recv.TimedOut peer a c = tt
get_waits_own recv.Over peer a c = sends_own peer a.out c

waits_own : (port : ℕ) (server : Endpoint) (phase : Phase) → IfSome (client_timeout (client_at port server phase)).out (λ o. o.from_port ≡ port)
waits_own port server (asking operation misses) = asks_own (misses + 1 == MISSES) operation misses (client_at port server (asking operation misses))
waits_own port server (sending peer s) = put_waits_own (sender_timeout s).sender.state peer (sender_timeout s) (client_at port server (sending peer s))
waits_own port server (receiving peer r) =
    get_waits_own (receiver_timeout r).receiver.state peer (receiver_timeout r) (client_at port server (receiving peer r))
waits_own port server (failed why) = tt

pub timeout-own : (c : Client) → IfSome (client_timeout c).out (λ o. o.from_port ≡ c.port)
timeout-own c = waits_own c.port c.server c.phase

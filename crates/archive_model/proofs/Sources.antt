-- Where what an answer adds comes from: a file that the server takes is from the sender of the datagram, and a time-out takes
-- no file and ends no operation of a client but by failing it.
use Rattle.std.proofs.Common.{◌≡◌, ◌≢◌, ℕ, ◌+◌, ◌==◌, Bool, true, false, List, Option, None, Some, Result, Ok, Err, refl, sym, ap, ◌∙◌}
use Rattle.std.specs.Prelude.{IfSome}
use Rattle.std.proofs.lemmas.Bool.{eqb-true, eqb-false}
use Rattle.tftp_packet.specs.declared.endpoint.Endpoint.{Endpoint}
use Rattle.tftp_packet.specs.declared.packet_fault.PacketFault.{PacketFault}
use Rattle.tftp_packet.specs.Packet.{Packet, read, write, data_block, ack, error}
use Rattle.tftp_packet.specs.Decode.{decode_bytes}
use Rattle.tftp_ends.specs.declared.limits.TheConstants.{MISSES}
use Rattle.tftp_ends.specs.declared.send_state.SendState.{SendState}
use Rattle.tftp_ends.specs.declared.send_state.SendState.TheVariants as send
use Rattle.tftp_ends.specs.declared.recv_state.RecvState.{RecvState}
use Rattle.tftp_ends.specs.declared.recv_state.RecvState.TheVariants as recv
use Rattle.tftp_ends.specs.declared.recv_fault.RecvFault.{RecvFault}
use Rattle.tftp_ends.specs.Input.{input_of_packet}
use Rattle.tftp_ends.specs.Ends.{Sender, SendAnswer, Receiver, RecvAnswer, answer_of, sender_ack, sender_timeout, sender_missed, sender_timeout_in, receiver_data, receiver_take, receiver_timeout, receiver_missed, receiver_timeout_in}
use Rattle.archive_table.specs.Table.{End, sending, receiving, Transfer, Maps, Table, Taken, Grant, all, no_memory, unkept, is_same, memory_verdict, transfer_at, file_come, file_asked, block_answered, data_at, sending_goes_on, ack_at, transfer_by_input, transfer_input_decoded, datagram_at, table_datagram, receiving_goes_on, waits_at, timeout_at, table_timeout}
use Rattle.archive_client.specs.declared.state.State.{State}
use Rattle.archive_client.specs.declared.state.State.TheVariants as state
use Rattle.archive_client.specs.Client.{Operation, Phase, Client, send_state, recv_state, phase_state, state_of, asks_again, put_waits, get_waits, phase_waits, client_timeout}
use Rattle.archive_client.specs.Client as client
use Rattle.archive_model.specs.World.{newly_sent, newly_got, World, Datagram, wanted_at, wanted_of}
use Rattle.archive_model.proofs.Endpoints.{exact_endpoint}

-- ---- the server

-- the file that is taken, if one is, is from this peer
abbrev IsFrom : Endpoint → Option Taken → Type 0
IsFrom peer taken = IfSome taken (λ t. t.peer ≡ peer)

-- an ACK takes nothing, nor does a time-out
sender_takes : (state : SendState) (port : ℕ) (peer : Endpoint) (a : SendAnswer) (s : Table) → (sending_goes_on state port peer a s).step.taken ≡ None
sender_takes send.Running port peer a s = refl
sender_takes send.Finished port peer a s = refl
sender_takes send.TimedOut port peer a s = refl

receiver_takes : (state : RecvState) (port : ℕ) (peer : Endpoint) (a : RecvAnswer) (s : Table) → (receiving_goes_on state port peer a s).step.taken ≡ None
receiver_takes recv.Running port peer a s = refl
receiver_takes recv.Complete port peer a s = refl
receiver_takes recv.TimedOut port peer a s = refl
receiver_takes recv.Over port peer a s = refl

end_takes : (end : End) (port : ℕ) (peer : Endpoint) (s : Table) → (waits_at end port peer s).step.taken ≡ None
end_takes (sending e) port peer s = sender_takes (sender_timeout e).sender.state port peer (sender_timeout e) s
end_takes (receiving r) port peer s = receiver_takes (receiver_timeout r).receiver.state port peer (receiver_timeout r) s

port_takes : (t : Option Transfer) (port : ℕ) (s : Table) → (timeout_at t port s).step.taken ≡ None
port_takes (Some t) port s = end_takes t.end port t.peer s
port_takes None port s = refl

pub timeout-takes : (port : ℕ) (s : Table) → (table_timeout port s).step.taken ≡ None
timeout-takes port s = port_takes (transfer_at port s) port s

from_none : (peer : Endpoint) (taken : Option Taken) → taken ≡ None → IsFrom peer taken
from_none peer None is = tt
from_none peer (Some t) is = absurd cc

-- a block from the peer
module _ (grant : Grant) (maps : Maps) (port : ℕ) (peer from : Endpoint) (same : peer ≡ from) (s : Table) where
  come_from : (g : Grant) (file : List ℕ) (r : Receiver) (out : Option (List ℕ)) → IsFrom from (file_come g maps port peer file r out s).step.taken
  come_from all file r out = same
  come_from no_memory file r out = tt
  come_from unkept file r out = tt

  file_from : (file : Option (List ℕ)) (r : Receiver) (out : Option (List ℕ)) → IsFrom from (file_asked file grant maps port peer r out s).step.taken
  file_from (Some file) r out = come_from grant file r out
  file_from None r out = tt

  block_from : (result : Result (Option (List ℕ)) RecvFault) (r : Receiver) → IsFrom from (block_answered result grant maps port peer r s).step.taken
  block_from (Ok out) r = file_from (receiver_take r).file (receiver_take r).receiver out
  block_from (Err e) r = tt

  data_from : (end : End) (n : ℕ) (body : List ℕ) → IsFrom from (data_at end grant maps port peer n body s).step.taken
  data_from (sending e) n body = tt
  data_from (receiving r) n body =
      block_from (answer_of (receiver_data (memory_verdict grant) n body r).result) (receiver_data (memory_verdict grant) n body r).receiver

  ack_from : (end : End) (n : ℕ) → IsFrom from (ack_at end port peer n s).step.taken
  ack_from (sending e) n = from_none from _ (sender_takes (sender_ack n e).sender.state port peer (sender_ack n e) s)
  ack_from (receiving r) n = tt

module _ (grant : Grant) (maps : Maps) (port : ℕ) (from : Endpoint) (s : Table) where
  -- only a block from the peer completes a file
  packet_from : (t : Transfer) (here : Bool) → is_same from t.peer ≡ here → (p : Packet) →
      IsFrom from (transfer_by_input (input_of_packet here p) grant maps port from t s).step.taken
  packet_from t true is (read name mode) = tt
  packet_from t true is (write name mode) = tt
  packet_from t true is (data_block n body) = data_from grant maps port t.peer from (sym (exact_endpoint from t.peer is)) s t.end n body
  packet_from t true is (ack n) = ack_from grant maps port t.peer from (sym (exact_endpoint from t.peer is)) s t.end n
  packet_from t true is (error code text) = tt
  packet_from t false is (read name mode) = tt
  packet_from t false is (write name mode) = tt
  packet_from t false is (data_block n body) = tt
  packet_from t false is (ack n) = tt
  packet_from t false is (error code text) = tt

  decoded_from : (t : Transfer) (answer : Result Packet PacketFault) →
      IsFrom from (transfer_by_input (transfer_input_decoded t.peer from answer) grant maps port from t s).step.taken
  decoded_from t (Ok p) = packet_from t (is_same from t.peer) refl p
  decoded_from t (Err e) = tt

  at_from : (t : Option Transfer) (bytes : List ℕ) → IsFrom from (datagram_at t grant maps port from bytes s).step.taken
  at_from (Some t) bytes = decoded_from t (decode_bytes bytes)
  at_from None bytes = tt

-- a file that is taken at a datagram is from its sender
pub datagram-takes : (grant : Grant) (maps : Maps) (port : ℕ) (from : Endpoint) (bytes : List ℕ) (s : Table) →
    IfSome (table_datagram grant maps port from bytes s).step.taken (λ t. t.peer ≡ from)
datagram-takes grant maps port from bytes s = at_from grant maps port from s (transfer_at port s) bytes

-- so is one that a datagram completes
some_from : (from : Endpoint) (taken : Option Taken) (t : Taken) → IfSome taken (λ u. u.peer ≡ from) → taken ≡ Some t → t.peer ≡ from
some_from from None t none is = absurd cc
some_from from (Some u) t same is = let one : u ≡ t = cc in ap (λ (x : Taken). x.peer) (sym one) ∙ same

-- a datagram that completes a file
pub record Completes (w : World) (d : Datagram) (t : Taken) : Type 0 where
  pub ours : d.target.host ≡ w.home.host
  pub other : d.target.port ≢ w.server.request
  pub takes : (table_datagram all w.server.maps d.target.port d.source d.bytes w.server).step.taken ≡ Some t

at_completes : (w : World) (d : Datagram) (t : Taken) → d.target.host ≡ w.home.host → (request : Bool) → (d.target.port == w.server.request) ≡ request →
    wanted_at request d w ≡ Some t → Completes w d t
at_completes w d t ours true at is = absurd cc
at_completes w d t ours false at is = record { ours = ours; other = eqb-false _ _ at; takes = is }

of_completes : (w : World) (d : Datagram) (t : Taken) (ours : Bool) → (d.target.host == w.home.host) ≡ ours → wanted_of ours d w ≡ Some t → Completes w d t
of_completes w d t true at is = at_completes w d t (eqb-true _ _ at) (d.target.port == w.server.request) refl is
of_completes w d t false at is = absurd cc

pub wanted-completes : (w : World) (d : Datagram) (t : Taken) → wanted_of (d.target.host == w.home.host) d w ≡ Some t → Completes w d t
wanted-completes w d t is = of_completes w d t (d.target.host == w.home.host) refl is

pub wanted-from : (w : World) (d : Datagram) (t : Taken) → wanted_of (d.target.host == w.home.host) d w ≡ Some t → t.peer ≡ d.source
wanted-from w d t is =
    some_from d.source _ t (datagram-takes all w.server.maps d.target.port d.source d.bytes w.server) (wanted-completes w d t is).takes

-- ---- a client

-- a client that goes from the first state to the second has not completed its operation by that
pub record EndsNone (was now : State) : Type 0 where
  pub sent : newly_sent was now ≡ false
  pub got : newly_got was now ≡ false

asking_ends : (last : Bool) (operation : Operation) (misses : ℕ) (c : Client) → EndsNone state.Running (state_of (asks_again last operation misses c).client)
asking_ends true operation misses c = record { sent = refl; got = refl }
asking_ends false operation misses c = record { sent = refl; got = refl }

put_missed : (last : Bool) (peer : ℕ) (s : Sender) (c : Client) → EndsNone state.Running (state_of (put_waits peer (sender_missed last s) c).client)
put_missed true peer s c = record { sent = refl; got = refl }
put_missed false peer s c = record { sent = refl; got = refl }

put_ends : (at : SendState) (peer : ℕ) (s : Sender) (c : Client) → EndsNone (send_state at) (state_of (put_waits peer (sender_timeout_in at s) c).client)
put_ends send.Running peer s c = put_missed (s.misses + 1 == MISSES) peer s c
put_ends send.Finished peer s c = record { sent = refl; got = refl }
put_ends send.TimedOut peer s c = record { sent = refl; got = refl }

get_missed : (last : Bool) (peer : ℕ) (r : Receiver) (c : Client) → EndsNone state.Running (state_of (get_waits peer (receiver_missed last r) c).client)
get_missed true peer r c = record { sent = refl; got = refl }
get_missed false peer r c = record { sent = refl; got = refl }

get_ends : (at : RecvState) (peer : ℕ) (r : Receiver) (c : Client) → EndsNone (recv_state at) (state_of (get_waits peer (receiver_timeout_in at r) c).client)
get_ends recv.Running peer r c = get_missed (r.misses + 1 == MISSES) peer r c
get_ends recv.Complete peer r c = record { sent = refl; got = refl }
get_ends recv.TimedOut peer r c = record { sent = refl; got = refl }
get_ends recv.Over peer r c = record { sent = refl; got = refl }

phase_ends : (p : Phase) (c : Client) → EndsNone (phase_state p) (state_of (phase_waits p c).client)
phase_ends (client.asking operation misses) c = asking_ends (misses + 1 == MISSES) operation misses c
phase_ends (client.sending peer s) c = put_ends s.state peer s c
phase_ends (client.receiving peer r) c = get_ends r.state peer r c
phase_ends (client.failed why) c = record { sent = refl; got = refl }

pub timeout-ends : (c : Client) → EndsNone (state_of c) (state_of (client_timeout c).client)
timeout-ends c = phase_ends c.phase c

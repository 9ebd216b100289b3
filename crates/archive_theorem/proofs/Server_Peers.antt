-- A file that the server takes is from the peer of the transfer that takes it, which is not on the server's host.
use Rattle.std.proofs.Common.{◌≡◌, ◌≢◌, ℕ, zero, suc, ◌≤◌, Bool, true, false, ◌==◌, List, [], ◌∷◌, map, length, slice_get, Option, None, Some, Result, Ok, Err, refl, ap, sym, ◌∙◌, subst, arith, ⊎_elim}
use Rattle.tftp_packet.specs.declared.endpoint.Endpoint.{Endpoint}
use Rattle.tftp_ends.specs.declared.recv_fault.RecvFault.{RecvFault}
use Rattle.tftp_ends.specs.Ends.{answer_of, Receiver, receiver_data, receiver_take}
use Rattle.tftp_ends.specs.Input.{Input, nothing, stray, refusal, acked, block}
use Rattle.archive_table.specs.Table.{Table, Maps, Transfer, Taken, End, sending, receiving, Grant, all, no_memory, unkept, memory_verdict, transfer_input, transfer_at, file_come, file_asked, block_answered, data_at, transfer_by_input, datagram_at, table_datagram}
use Rattle.archive_client.specs.Client.{is_too_long}
use Rattle.archive_model.specs.World.{Datagram, Event, begin, deliver, client_times_out, server_times_out, restart, WorldStep, World, Origin, RunFrom, given, first_world, last_world, client_at, has_begun, taken_with, server_receives, arrives, delivers, event_happens, happens, run_from, AllMerged}
use Rattle.archive_model.specs.World as world
use Rattle.archive_theorem.proofs.Claim_Invariant.{Holds, first-holds}
use Rattle.archive_theorem.proofs.Headline_Remains.{ack_leaves, begins_remain, request_remains, client_remains, waits_remain, strays_remain, timeout_leaves}

-- ---- a file is from the peer of the transfer that takes it

come_from : (grant : Grant) (maps : Maps) (port : ℕ) (peer : Endpoint) (file : List ℕ) (r : Receiver) (out : Option (List ℕ)) (s : Table) (u : Taken) →
    (file_come grant maps port peer file r out s).step.taken ≡ Some u → u.peer ≡ peer
come_from all maps port peer file r out s u is =
    let one : Taken = record { peer = peer; file = file } in
    let same : one ≡ u = cc in
    ap (λ (x : Taken). x.peer) (sym same)
come_from no_memory maps port peer file r out s u is = absurd cc
come_from unkept maps port peer file r out s u is = absurd cc

asked_from : (found : Option (List ℕ)) (grant : Grant) (maps : Maps) (port : ℕ) (peer : Endpoint) (r : Receiver) (out : Option (List ℕ))
    (s : Table) (u : Taken) →
    (file_asked found grant maps port peer r out s).step.taken ≡ Some u → u.peer ≡ peer
asked_from (Some file) grant maps port peer r out s u is = come_from grant maps port peer file r out s u is
asked_from None grant maps port peer r out s u is = absurd cc

block_from : (result : Result (Option (List ℕ)) RecvFault) (grant : Grant) (maps : Maps) (port : ℕ) (peer : Endpoint) (r : Receiver) (s : Table) (u : Taken) →
    (block_answered result grant maps port peer r s).step.taken ≡ Some u → u.peer ≡ peer
block_from (Ok out) grant maps port peer r s u is =
    asked_from (receiver_take r).file grant maps port peer (receiver_take r).receiver out s u is
block_from (Err e) grant maps port peer r s u is = absurd cc

data_from : (end : End) (grant : Grant) (maps : Maps) (port : ℕ) (peer : Endpoint) (n : ℕ) (body : List ℕ) (s : Table) (u : Taken) →
    (data_at end grant maps port peer n body s).step.taken ≡ Some u → u.peer ≡ peer
data_from (sending e) grant maps port peer n body s u is = absurd cc
data_from (receiving r) grant maps port peer n body s u is =
    let a = receiver_data (memory_verdict grant) n body r in
    block_from (answer_of a.result) grant maps port peer a.receiver s u is

none_is : (o : Option Taken) (u : Taken) (P : Type 0) → o ≡ None → o ≡ Some u → P
none_is o u P none is = let both : None ≡ Some u = sym none ∙ is in absurd cc

-- the file that a step takes is from the transfer's peer
received_from : (x : Input) (grant : Grant) (maps : Maps) (port : ℕ) (from : Endpoint) (t : Transfer) (s : Table) (u : Taken) →
    (transfer_by_input x grant maps port from t s).step.taken ≡ Some u → u.peer ≡ t.peer
received_from nothing grant maps port from t s u is = absurd cc
received_from stray grant maps port from t s u is = absurd cc
received_from (refusal code) grant maps port from t s u is = absurd cc
received_from (acked n) grant maps port from t s u is = none_is _ u (u.peer ≡ t.peer) (ack_leaves t.end port t.peer n s).0 is
received_from (block n body) grant maps port from t s u is = data_from t.end grant maps port t.peer n body s u is

-- so a file that a datagram at a port completes is from another host
module _ (w : World) (h : Holds w) where
  pub found_from : (found : Option Transfer) (grant : Grant) (maps : Maps) (port : ℕ) (from : Endpoint) (bytes : List ℕ) →
      transfer_at port w.server ≡ found → (u : Taken) → (datagram_at found grant maps port from bytes w.server).step.taken ≡ Some u →
      u.peer.host ≢ w.home.host
  found_from None grant maps port from bytes at u is = absurd cc
  found_from (Some t) grant maps port from bytes at u is =
      let same = received_from (transfer_input t.peer from bytes) grant maps port from t w.server u is in
      λ ours. (h.live port t at).away (ap (λ (e : Endpoint). e.host) (sym same) ∙ ours)

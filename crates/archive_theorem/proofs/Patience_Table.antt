-- What an answer of the server makes of each transfer that stays: at a datagram, a time-out, a request.
use Rattle.std.proofs.Common.{◌≡◌, ◌≢◌, ◌⊎◌, ℕ, Bool, true, false, nat_cmp, List, Option, None, Some, Result, Ok, Err, refl, ap, sym, ◌∙◌, subst, inl, inr}
use Rattle.std.specs.Map.{lookup, set_value}
use Rattle.tftp_packet.specs.declared.endpoint.Endpoint.{Endpoint}
use Rattle.tftp_packet.specs.declared.packet_fault.PacketFault.{PacketFault}
use Rattle.tftp_packet.specs.declared.refusal.Refusal.TheVariants.{OutOfMemory, NotKept}
use Rattle.tftp_packet.specs.Packet.{Packet, read, write, data_block, ack, error, is_octet}
use Rattle.tftp_packet.specs.Decode.{decode_bytes}
use Rattle.tftp_ends.specs.declared.send_state.SendState.{SendState}
use Rattle.tftp_ends.specs.declared.send_state.SendState.TheVariants as send
use Rattle.tftp_ends.specs.declared.recv_state.RecvState.{RecvState}
use Rattle.tftp_ends.specs.declared.recv_state.RecvState.TheVariants as recv
use Rattle.tftp_ends.specs.declared.recv_fault.RecvFault.{RecvFault}
use Rattle.tftp_ends.specs.Input.{input_of_packet}
use Rattle.tftp_ends.specs.Ends.{Verdict, granted, refused, dgram_of, answer_of, Sender, SendAnswer, sender_ack, sender_timeout, Receiver, RecvAnswer, receiver_data, receiver_take, receiver_timeout, refusal_of}
use Rattle.tws_file.specs.declared.«ruleset».Ruleset.{Ruleset}
use Rattle.tws_file.specs.Names.{ruleset_named}
use Rattle.tws_best.specs.Best.{Collected}
use Rattle.archive_table.specs.Table.{Table, Maps, Grant, all, no_memory, unkept, memory_verdict, End, Transfer, sending, receiving, TableAnswer, at_port, transfer_at, table_stays, refusal_dgram, opens_if, goes_on, closes, takes, map_of, has_slot, has_long_text, read_fits, read_with_slot, read_named, read_asked, write_with_slot, write_asked, request_by_packet, request_decoded, table_request, is_same, transfer_input_decoded, file_come, file_asked, block_answered, data_at, ack_at, sending_goes_on, receiving_goes_on, transfer_by_input, datagram_at, table_datagram, waits_at, timeout_at, table_timeout}
use Rattle.archive_model.proofs.Endpoints.{exact_endpoint}
use Rattle.archive_theorem.proofs.Keyed.{IsApart, lookup-set, lookup-written, lookup-remove, lookup-removed, lookup-insert_entry}
use Rattle.archive_theorem.proofs.Claim_Invariant.{exact_port}

-- what a datagram from the peer makes of an end
pub data Moves : End → End → Type 0 where
  acked_by : (n : ℕ) (e : Sender) → Moves (sending e) (sending (sender_ack n e).sender)
  took : (verdict : Verdict) (n : ℕ) (body : List ℕ) (r : Receiver) →
      Moves (receiving r) (receiving (receiver_take (receiver_data verdict n body r).receiver).receiver)

-- what a time-out makes of it, if the transfer goes on
pub data Waits : End → End → Type 0 where
  sends_again : (e : Sender) → (sender_timeout e).sender.state ≡ send.Running → Waits (sending e) (sending (sender_timeout e).sender)
  waits_on : (r : Receiver) → ((receiver_timeout r).receiver.state ≡ recv.Running) ⊎ ((receiver_timeout r).receiver.state ≡ recv.Complete) →
      Waits (receiving r) (receiving (receiver_timeout r).receiver)

same_some : (o : Option Transfer) (t u : Transfer) → o ≡ Some t → o ≡ Some u → t ≡ u
same_some o t u is also = let both : Some t ≡ Some u = sym is ∙ also in cc

pub none_some : {P : Type 0} (o : Option Transfer) (t : Transfer) → o ≡ None → o ≡ Some t → P
none_some o t none is = let both : None ≡ Some t = sym none ∙ is in absurd cc

-- each transfer that is there before and after an answer at a port: the one at the port, and any other
pub record Follows (Next : Transfer → Transfer → Type 0) (port : ℕ) (s : Table) (a : TableAnswer) : Type 0 where
  pub here : (t u : Transfer) → transfer_at port s ≡ Some t → transfer_at port a.server ≡ Some u → Next t u
  pub rest : (q : ℕ) (t u : Transfer) → q ≢ port → transfer_at q s ≡ Some t → transfer_at q a.server ≡ Some u → t ≡ u

-- the same transfer, or one step of its end at a datagram from its peer
abbrev pub SameOrMoves : (from : Endpoint) → Transfer → Transfer → Type 0
SameOrMoves from t u = (t ≡ u) ⊎ ((from ≡ t.peer) × Moves t.end u.end)

abbrev pub WaitsAt : Transfer → Transfer → Type 0
WaitsAt t u = Waits t.end u.end

module _ (s : Table) (apart : IsApart at_port exact_port s.live) where
  stays_follows : (from : Endpoint) (port : ℕ) (a : TableAnswer) → a.server ≡ s → Follows (SameOrMoves from) port s a
  stays_follows from port a same =
      record {
        here = λ t u old new. inl (same_some (transfer_at port s) t u old (ap (transfer_at port) (sym same) ∙ new));
        rest = λ q t u other old new. same_some (transfer_at q s) t u old (ap (transfer_at q) (sym same) ∙ new);
      }

  module _ (Next : Transfer → Transfer → Type 0) (port : ℕ) (t : Transfer) (is : transfer_at port s ≡ Some t) where
    -- the transfer at the port is written
    written_follows : (next : Transfer) (a : TableAnswer) → a.server.live ≡ set_value (at_port port) s.live next → Next t next → Follows Next port s a
    written_follows next a live step =
        let found : transfer_at port a.server ≡ Some next = ap (lookup (at_port port)) live ∙ lookup-written at_port exact_port s.live port t next is in
        record {
          here = λ o u old new.
              subst (λ (x : Transfer). Next x u) (same_some (transfer_at port s) t o is old)
              (subst (Next t) (same_some (transfer_at port a.server) next u found new) step);
          rest = λ q o u other old new.
              elim (lookup-set at_port exact_port s.live port next q u (ap (lookup (at_port q)) (sym live) ∙ new)) [
                | inl same ↦ absurd (other same.0)
                | inr there ↦ same_some (transfer_at q s) o u old there
              ];
        }

    closes_follows : (out : Option (List ℕ)) → Follows Next port s (closes port t.peer out s)
    closes_follows out =
        record {
          here = λ o u old new. none_some _ u (lookup-removed at_port exact_port s.live port apart) new;
          rest = λ q o u other old new. same_some (transfer_at q s) o u old (lookup-remove at_port exact_port s.live port q u apart new);
        }

    sender_follows : (state : SendState) (a : SendAnswer) → (state ≡ send.Running → Next t (record { peer = t.peer; end = sending a.sender })) →
        Follows Next port s (sending_goes_on state port t.peer a s)
    sender_follows send.Running a step = written_follows _ (goes_on port t.peer (sending a.sender) (dgram_of a.out) s) refl (step refl)
    sender_follows send.Finished a step = closes_follows (dgram_of a.out)
    sender_follows send.TimedOut a step = closes_follows (dgram_of a.out)

    receiver_follows : (state : RecvState) (a : RecvAnswer) →
        ((state ≡ recv.Running) ⊎ (state ≡ recv.Complete) → Next t (record { peer = t.peer; end = receiving a.receiver })) →
        Follows Next port s (receiving_goes_on state port t.peer a s)
    receiver_follows recv.Running a step = written_follows _ (goes_on port t.peer (receiving a.receiver) (dgram_of a.out) s) refl (step (inl refl))
    receiver_follows recv.Complete a step = written_follows _ (goes_on port t.peer (receiving a.receiver) (dgram_of a.out) s) refl (step (inr refl))
    receiver_follows recv.TimedOut a step = closes_follows (dgram_of a.out)
    receiver_follows recv.Over a step = closes_follows (dgram_of a.out)

    -- a receiver's next block
    come_follows : (grant : Grant) (maps : Maps) (file : List ℕ) (r : Receiver) (out : Option (List ℕ)) →
        Next t (record { peer = t.peer; end = receiving r }) → Follows Next port s (file_come grant maps port t.peer file r out s)
    come_follows all maps file r out step = written_follows _ (takes maps port t.peer file r out s) refl step
    come_follows no_memory maps file r out step = closes_follows (Some (refusal_dgram OutOfMemory))
    come_follows unkept maps file r out step = closes_follows (Some (refusal_dgram NotKept))

    file_follows : (file : Option (List ℕ)) (grant : Grant) (maps : Maps) (r : Receiver) (out : Option (List ℕ)) →
        Next t (record { peer = t.peer; end = receiving r }) → Follows Next port s (file_asked file grant maps port t.peer r out s)
    file_follows (Some file) grant maps r out step = come_follows grant maps file r out step
    file_follows None grant maps r out step = written_follows _ (goes_on port t.peer (receiving r) out s) refl step

    block_follows : (result : Result (Option (List ℕ)) RecvFault) (grant : Grant) (maps : Maps) (r : Receiver) →
        Next t (record { peer = t.peer; end = receiving (receiver_take r).receiver }) → Follows Next port s (block_answered result grant maps port t.peer r s)
    block_follows (Ok out) grant maps r step = file_follows (receiver_take r).file grant maps (receiver_take r).receiver out step
    block_follows (Err e) grant maps r step = closes_follows (Some (refusal_dgram (refusal_of e)))

  -- ---- a datagram

  module _ (port : ℕ) (t : Transfer) (is : transfer_at port s ≡ Some t) where
    data_follows : (from : Endpoint) → from ≡ t.peer → (end : End) → t.end ≡ end → (grant : Grant) (maps : Maps) (n : ℕ) (body : List ℕ) →
        Follows (SameOrMoves from) port s (data_at end grant maps port t.peer n body s)
    data_follows from same (sending e) at grant maps n body = stays_follows from port (table_stays s) refl
    data_follows from same (receiving r) at grant maps n body =
        let a = receiver_data (memory_verdict grant) n body r in
        let step = subst (λ (x : End). Moves x (receiving (receiver_take a.receiver).receiver)) (sym at) (took (memory_verdict grant) n body r) in
        block_follows (SameOrMoves from) port t is (answer_of a.result) grant maps a.receiver (inr (same, step))

    ack_follows : (from : Endpoint) → from ≡ t.peer → (end : End) → t.end ≡ end → (n : ℕ) → Follows (SameOrMoves from) port s (ack_at end port t.peer n s)
    ack_follows from same (sending e) at n =
        let step = subst (λ (x : End). Moves x (sending (sender_ack n e).sender)) (sym at) (acked_by n e) in
        sender_follows (SameOrMoves from) port t is (sender_ack n e).sender.state (sender_ack n e) (λ running. inr (same, step))
    ack_follows from same (receiving r) at n = stays_follows from port (table_stays s) refl

    packet_follows : (grant : Grant) (maps : Maps) (from : Endpoint) (p : Packet) (same : Bool) → is_same from t.peer ≡ same →
        Follows (SameOrMoves from) port s (transfer_by_input (input_of_packet same p) grant maps port from t s)
    packet_follows grant maps from (read name mode) true at = stays_follows from port (table_stays s) refl
    packet_follows grant maps from (write name mode) true at = stays_follows from port (table_stays s) refl
    packet_follows grant maps from (data_block n body) true at = data_follows from (exact_endpoint from t.peer at) t.end refl grant maps n body
    packet_follows grant maps from (ack n) true at = ack_follows from (exact_endpoint from t.peer at) t.end refl n
    packet_follows grant maps from (error code text) true at = closes_follows (SameOrMoves from) port t is None
    packet_follows grant maps from (read name mode) false at = stays_follows from port _ refl
    packet_follows grant maps from (write name mode) false at = stays_follows from port _ refl
    packet_follows grant maps from (data_block n body) false at = stays_follows from port _ refl
    packet_follows grant maps from (ack n) false at = stays_follows from port _ refl
    packet_follows grant maps from (error code text) false at = stays_follows from port (table_stays s) refl

    decoded_follows : (grant : Grant) (maps : Maps) (from : Endpoint) (answer : Result Packet PacketFault) →
        Follows (SameOrMoves from) port s (transfer_by_input (transfer_input_decoded t.peer from answer) grant maps port from t s)
    decoded_follows grant maps from (Ok p) = packet_follows grant maps from p (is_same from t.peer) refl
    decoded_follows grant maps from (Err e) = stays_follows from port (table_stays s) refl

    -- ---- a time-out

    waits_follows : (end : End) → t.end ≡ end → Follows WaitsAt port s (waits_at end port t.peer s)
    waits_follows (sending e) at =
        sender_follows WaitsAt port t is (sender_timeout e).sender.state (sender_timeout e)
        (λ running. subst (λ (x : End). Waits x (sending (sender_timeout e).sender)) (sym at) (sends_again e running))
    waits_follows (receiving r) at =
        receiver_follows WaitsAt port t is (receiver_timeout r).receiver.state (receiver_timeout r)
        (λ on. subst (λ (x : End). Waits x (receiving (receiver_timeout r).receiver)) (sym at) (waits_on r on))

  datagram_follows : (found : Option Transfer) (port : ℕ) → transfer_at port s ≡ found → (grant : Grant) (maps : Maps) (from : Endpoint) (bytes : List ℕ) →
      Follows (SameOrMoves from) port s (datagram_at found grant maps port from bytes s)
  datagram_follows None port is grant maps from bytes = stays_follows from port (table_stays s) refl
  datagram_follows (Some t) port is grant maps from bytes = decoded_follows port t is grant maps from (decode_bytes bytes)

  -- a datagram at a port
  pub datagram-follows : (grant : Grant) (maps : Maps) (port : ℕ) (from : Endpoint) (bytes : List ℕ) →
      Follows (SameOrMoves from) port s (table_datagram grant maps port from bytes s)
  datagram-follows grant maps port from bytes = datagram_follows (transfer_at port s) port refl grant maps from bytes

  timeout_follows : (found : Option Transfer) (port : ℕ) → transfer_at port s ≡ found → Follows WaitsAt port s (timeout_at found port s)
  timeout_follows None port is =
      record {
        here = λ t u old new. none_some (transfer_at port s) t is old;
        rest = λ q t u other old new. same_some (transfer_at q s) t u old new;
      }
  timeout_follows (Some t) port is = waits_follows port t is t.end refl

  -- a time-out of a port
  pub timeout-follows : (port : ℕ) → Follows WaitsAt port s (table_timeout port s)
  timeout-follows port = timeout_follows (transfer_at port s) port refl

  -- ---- a request

  -- a transfer that is there stays
  abbrev Leaves : TableAnswer → Type 0
  Leaves a = (q : ℕ) (t u : Transfer) → transfer_at q s ≡ Some t → transfer_at q a.server ≡ Some u → t ≡ u

  module _ (spare : ℕ) (from : Endpoint) (free : transfer_at spare s ≡ None) where
    opens_left : (verdict : Verdict) (end : End) (first : List ℕ) → Leaves (opens_if verdict spare from end first s)
    opens_left granted end first = λ q t u old new.
        elim (lookup-insert_entry nat_cmp exact_port s.live spare (record { peer = from; end = end }) q u new) [
          | inl same ↦ none_some (transfer_at spare s) t free (ap (λ (p : ℕ). transfer_at p s) (sym same.0) ∙ old)
          | inr there ↦ same_some (transfer_at q s) t u old there
        ]
    opens_left refused end first = λ q t u old new. same_some (transfer_at q s) t u old new

    fits_left : (long : Bool) (verdict : Verdict) (c : Collected) → Leaves (read_fits long verdict spare from c s)
    fits_left true verdict c = λ q t u old new. same_some (transfer_at q s) t u old new
    fits_left false verdict c = opens_left verdict _ _

    read_left : (slot : Bool) (verdict : Verdict) (c : Collected) → Leaves (read_with_slot slot verdict spare from c s)
    read_left true verdict c = fits_left (has_long_text c) verdict c
    read_left false verdict c = λ q t u old new. same_some (transfer_at q s) t u old new

    named_left : (name : Option Ruleset) (verdict : Verdict) → Leaves (read_named name verdict spare from s)
    named_left (Some rules) verdict = read_left (has_slot s) verdict (map_of rules s.maps)
    named_left None verdict = λ q t u old new. same_some (transfer_at q s) t u old new

    asked_left : (octet : Bool) (verdict : Verdict) (name : List ℕ) → Leaves (read_asked octet verdict spare from name s)
    asked_left true verdict name = named_left (ruleset_named name) verdict
    asked_left false verdict name = λ q t u old new. same_some (transfer_at q s) t u old new

    slot_left : (slot : Bool) (verdict : Verdict) → Leaves (write_with_slot slot verdict spare from s)
    slot_left true verdict = opens_left verdict _ _
    slot_left false verdict = λ q t u old new. same_some (transfer_at q s) t u old new

    write_left : (octet : Bool) (verdict : Verdict) → Leaves (write_asked octet verdict spare from s)
    write_left true verdict = slot_left (has_slot s) verdict
    write_left false verdict = λ q t u old new. same_some (transfer_at q s) t u old new

    packet_left : (verdict : Verdict) (p : Packet) → Leaves (request_by_packet verdict spare from p s)
    packet_left verdict (read name mode) = asked_left (is_octet mode) verdict name
    packet_left verdict (write name mode) = write_left (is_octet mode) verdict
    packet_left verdict (data_block n body) = λ q t u old new. same_some (transfer_at q s) t u old new
    packet_left verdict (ack n) = λ q t u old new. same_some (transfer_at q s) t u old new
    packet_left verdict (error code text) = λ q t u old new. same_some (transfer_at q s) t u old new

    decoded_left : (verdict : Verdict) (answer : Result Packet PacketFault) → Leaves (request_decoded verdict spare from answer s)
    decoded_left verdict (Ok p) = packet_left verdict p
    decoded_left verdict (Err e) = λ q t u old new. same_some (transfer_at q s) t u old new

    -- a request
    pub request-leaves : (verdict : Verdict) (bytes : List ℕ) → Leaves (table_request verdict spare from bytes s)
    request-leaves verdict bytes = decoded_left verdict (decode_bytes bytes)

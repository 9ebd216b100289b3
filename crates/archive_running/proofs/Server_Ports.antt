-- After each step of a server, no transfer is at the request port.
use Rattle.std.proofs.Common.{◌≡◌, ◌≢◌, ℕ, Bool, true, false, cond, List, [], ◌∷◌, Option, None, Some, Result, Ok, Err, sym, subst}
use Rattle.std.specs.List.{All}
use Rattle.std.specs.Prelude.{filter}
use Rattle.std.specs.Ordering.{nat_cmp}
use Rattle.std.specs.Map.{remove_entry, set_value, keys_of}
use Rattle.std.specs.BTreeMap.{insert_entry}
use Rattle.std.specs.BTreeMap.Range.{range_contains}
use Rattle.std.specs.declared.ops.Bound.TheVariants.{Excluded, Unbounded}
use Rattle.std.proofs.lemmas.List.Elements.{All-head, All-tail}
use Rattle.std.proofs.lemmas.Map.{keys-set_value}
use Rattle.std.proofs.lemmas.Map.Views.{All-keys-insert_entry, All-map-remove_entry}
use Rattle.tftp_packet.specs.declared.endpoint.Endpoint.{Endpoint}
use Rattle.tftp_packet.specs.declared.packet_fault.PacketFault.{PacketFault}
use Rattle.tftp_packet.specs.Packet.{Packet, read, write, data_block, ack, error, is_octet}
use Rattle.tftp_packet.specs.Decode.{decode_bytes}
use Rattle.tftp_ends.specs.declared.send_state.SendState.{SendState}
use Rattle.tftp_ends.specs.declared.send_state.SendState.TheVariants as send
use Rattle.tftp_ends.specs.declared.recv_state.RecvState.{RecvState}
use Rattle.tftp_ends.specs.declared.recv_state.RecvState.TheVariants as recv
use Rattle.tftp_ends.specs.declared.recv_fault.RecvFault.{RecvFault}
use Rattle.tftp_ends.specs.Ends.{Verdict, granted, refused, answer_of, Receiver, SendAnswer, RecvAnswer, receiver_data, receiver_take, receiver_timeout, sender_ack, sender_timeout}
use Rattle.tftp_ends.specs.Input.{Input, nothing, stray, refusal, acked, block}
use Rattle.tws_file.specs.declared.«ruleset».Ruleset.{Ruleset}
use Rattle.tws_best.specs.Best.{Collected}
use Rattle.archive_table.specs.Table.{Table, Maps, Transfer, End, sending, receiving, Grant, all, no_memory, unkept, memory_verdict, map_of, has_slot, at_port, with_live, opens_if, read_fits, read_with_slot, read_named, read_asked, write_with_slot, write_asked, request_by_packet, request_decoded, table_request, transfer_input, transfer_at, first_live, port_above, file_come, file_asked, block_answered, data_at, sending_goes_on, ack_at, transfer_by_input, datagram_at, table_datagram, receiving_goes_on, waits_at, timeout_at, table_timeout, has_long_text}
use Rattle.tws_file.specs.Names.{ruleset_named}

-- no transfer is at the request port
abbrev pub IsApart : Table → Type 0
IsApart s = All (λ p. p ≢ s.request) (keys_of s.live)

-- a property that holds at each live port holds at the first one that passes a test
first_kept : (P : ℕ → Type 0) (test : ℕ × Transfer → Bool) (es : List (ℕ × Transfer)) → All P (keys_of es) → (port : ℕ) →
    first_live (filter test es) ≡ Some port → P port
first_kept P test [] fits port e = absurd cc
first_kept P test (x ∷ es) fits port e = by (test x) (first_kept P test es (All-tail P _ _ fits) port) e
  where
    by : (b : Bool) → (first_live (filter test es) ≡ Some port → P port) → first_live (cond b (x ∷ filter test es) (filter test es)) ≡ Some port → P port
    by true later found = let same : x.0 ≡ port = cc in subst P same (All-head P _ _ fits)
    by false later found = later found

-- so the next live port above another is not the request port
pub above-apart : (last : ℕ) (s : Table) → IsApart s → (port : ℕ) → port_above last s ≡ Some port → port ≢ s.request
above-apart last s apart port e =
    first_kept (λ p. p ≢ s.request) (λ e. range_contains nat_cmp (Excluded last) Unbounded e.0) s.live apart port e

-- ---- the transfers after a step

-- writing a transfer
set_apart : (port : ℕ) (t : Transfer) (s : Table) → IsApart s → IsApart (with_live (set_value (at_port port) s.live t) s)
set_apart port t s apart =
    subst (λ ps. All (λ p. p ≢ s.request) ps) (sym (keys-set_value (at_port port) s.live t)) apart

-- removing one
remove_apart : (port : ℕ) (s : Table) → IsApart s → IsApart (with_live (remove_entry (at_port port) s.live) s)
remove_apart port s apart =
    All-map-remove_entry (at_port port) (λ (e : ℕ × Transfer). e.0) (λ p. p ≢ s.request) s.live apart

-- opening one at another port than the request port
insert_apart : (port : ℕ) (t : Transfer) (s : Table) → IsApart s → port ≢ s.request → IsApart (with_live (insert_entry nat_cmp s.live port t) s)
insert_apart port t s apart other = All-keys-insert_entry nat_cmp port t (λ p. p ≢ s.request) s.live apart other

-- ---- a request

module _ (spare : ℕ) (from : Endpoint) (s : Table) (apart : IsApart s) (other : spare ≢ s.request) where
  opens_apart : (verdict : Verdict) (end : End) (first : List ℕ) → IsApart (opens_if verdict spare from end first s).server
  opens_apart granted end first = insert_apart spare (record { peer = from; end = end }) s apart other
  opens_apart refused end first = apart

  fits_apart : (long : Bool) (verdict : Verdict) (c : Collected) → IsApart (read_fits long verdict spare from c s).server
  fits_apart true verdict c = apart
  fits_apart false verdict c = opens_apart verdict _ _

  read_apart : (position : Bool) (verdict : Verdict) (c : Collected) → IsApart (read_with_slot position verdict spare from c s).server
  read_apart true verdict c = fits_apart (has_long_text c) verdict c
  read_apart false verdict c = apart

  named_apart : (name : Option Ruleset) (verdict : Verdict) → IsApart (read_named name verdict spare from s).server
  named_apart (Some rules) verdict = read_apart (has_slot s) verdict (map_of rules s.maps)
  named_apart None verdict = apart

  asked_apart : (octet : Bool) (verdict : Verdict) (name : List ℕ) → IsApart (read_asked octet verdict spare from name s).server
  asked_apart true verdict name = named_apart (ruleset_named name) verdict
  asked_apart false verdict name = apart

  write_apart : (position : Bool) (verdict : Verdict) → IsApart (write_with_slot position verdict spare from s).server
  write_apart true verdict = opens_apart verdict _ _
  write_apart false verdict = apart

  octet_apart : (octet : Bool) (verdict : Verdict) → IsApart (write_asked octet verdict spare from s).server
  octet_apart true verdict = write_apart (has_slot s) verdict
  octet_apart false verdict = apart

  packet_apart : (verdict : Verdict) (packet : Packet) → IsApart (request_by_packet verdict spare from packet s).server
  packet_apart verdict (read name mode) = asked_apart (is_octet mode) verdict name
  packet_apart verdict (write name mode) = octet_apart (is_octet mode) verdict
  packet_apart verdict (data_block n body) = apart
  packet_apart verdict (ack n) = apart
  packet_apart verdict (error code text) = apart

  decoded_apart : (verdict : Verdict) (decoded : Result Packet PacketFault) → IsApart (request_decoded verdict spare from decoded s).server
  decoded_apart verdict (Ok packet) = packet_apart verdict packet
  decoded_apart verdict (Err e) = apart

  -- after any request no transfer is at the request port
  pub request-apart : (verdict : Verdict) (bytes : List ℕ) → IsApart (table_request verdict spare from bytes s).server
  request-apart verdict bytes = decoded_apart verdict (decode_bytes bytes)

-- ---- a datagram and a time-out

module _ (port : ℕ) (s : Table) (apart : IsApart s) where
  module _ (peer : Endpoint) where
    sender_apart : (state : SendState) (a : SendAnswer) → IsApart (sending_goes_on state port peer a s).server
    sender_apart send.Running a = set_apart port _ s apart
    sender_apart send.Finished a = remove_apart port s apart
    sender_apart send.TimedOut a = remove_apart port s apart

    receiver_apart : (state : RecvState) (a : RecvAnswer) → IsApart (receiving_goes_on state port peer a s).server
    receiver_apart recv.Running a = set_apart port _ s apart
    receiver_apart recv.Complete a = set_apart port _ s apart
    receiver_apart recv.TimedOut a = remove_apart port s apart
    receiver_apart recv.Over a = remove_apart port s apart

    waits_apart : (end : End) → IsApart (waits_at end port peer s).server
    waits_apart (sending e) = sender_apart (sender_timeout e).sender.state (sender_timeout e)
    waits_apart (receiving r) = receiver_apart (receiver_timeout r).receiver.state (receiver_timeout r)

    come_apart : (grant : Grant) (maps : Maps) (file : List ℕ) (r : Receiver) (out : Option (List ℕ)) →
        IsApart (file_come grant maps port peer file r out s).server
    come_apart all maps file r out = set_apart port _ s apart
    come_apart no_memory maps file r out = remove_apart port s apart
    come_apart unkept maps file r out = remove_apart port s apart

    file_apart : (file : Option (List ℕ)) (grant : Grant) (maps : Maps) (r : Receiver) (out : Option (List ℕ)) →
        IsApart (file_asked file grant maps port peer r out s).server
    file_apart (Some file) grant maps r out = come_apart grant maps file r out
    file_apart None grant maps r out = set_apart port _ s apart

    block_apart : (result : Result (Option (List ℕ)) RecvFault) (grant : Grant) (maps : Maps) (r : Receiver) →
        IsApart (block_answered result grant maps port peer r s).server
    block_apart (Ok out) grant maps r = file_apart (receiver_take r).file grant maps (receiver_take r).receiver out
    block_apart (Err e) grant maps r = remove_apart port s apart

    data_apart : (end : End) (grant : Grant) (maps : Maps) (n : ℕ) (body : List ℕ) → IsApart (data_at end grant maps port peer n body s).server
    data_apart (sending e) grant maps n body = apart
    data_apart (receiving r) grant maps n body =
        let a = receiver_data (memory_verdict grant) n body r in
        block_apart (answer_of a.result) grant maps a.receiver

    ack_apart : (end : End) (n : ℕ) → IsApart (ack_at end port peer n s).server
    ack_apart (sending e) n = sender_apart (sender_ack n e).sender.state (sender_ack n e)
    ack_apart (receiving r) n = apart

  received_apart : (h : Input) (grant : Grant) (maps : Maps) (from : Endpoint) (t : Transfer) → IsApart (transfer_by_input h grant maps port from t s).server
  received_apart nothing grant maps from t = apart
  received_apart stray grant maps from t = apart
  received_apart (refusal code) grant maps from t = remove_apart port s apart
  received_apart (acked n) grant maps from t = ack_apart t.peer t.end n
  received_apart (block n body) grant maps from t = data_apart t.peer t.end grant maps n body

  found_apart : (found : Option Transfer) (grant : Grant) (maps : Maps) (from : Endpoint) (bytes : List ℕ) →
      IsApart (datagram_at found grant maps port from bytes s).server
  found_apart (Some t) grant maps from bytes = received_apart (transfer_input t.peer from bytes) grant maps from t
  found_apart None grant maps from bytes = apart

  -- after a datagram at a port
  pub datagram-apart : (grant : Grant) (maps : Maps) (from : Endpoint) (bytes : List ℕ) → IsApart (table_datagram grant maps port from bytes s).server
  datagram-apart grant maps from bytes = found_apart (transfer_at port s) grant maps from bytes

  at_apart : (found : Option Transfer) → IsApart (timeout_at found port s).server
  at_apart (Some t) = waits_apart t.peer t.end
  at_apart None = apart

  -- after a time-out at a port
  pub timeout-apart : IsApart (table_timeout port s).server
  timeout-apart = at_apart (transfer_at port s)

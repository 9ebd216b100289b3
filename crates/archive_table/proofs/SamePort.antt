-- No call changes the request port. Each lemma is about one definition that a step goes through.
use Rattle.std.specs.Prelude.{◌≡◌, ℕ, Bool, true, false, List, Option, None, Some, Result, Ok, Err}
use Rattle.std.proofs.Common.{refl}
use Rattle.tftp_packet.specs.declared.endpoint.Endpoint.{Endpoint}
use Rattle.tftp_packet.specs.declared.packet_fault.PacketFault.{PacketFault}
use Rattle.tftp_packet.specs.Packet.{Packet, read, write, data_block, ack, error, is_octet}
use Rattle.tftp_packet.specs.Decode.{decode_bytes}
use Rattle.tftp_ends.specs.declared.send_state.SendState.{SendState}
use Rattle.tftp_ends.specs.declared.send_state.SendState.TheVariants as send
use Rattle.tftp_ends.specs.declared.recv_state.RecvState.{RecvState}
use Rattle.tftp_ends.specs.declared.recv_state.RecvState.TheVariants as recv
use Rattle.tftp_ends.specs.declared.recv_fault.RecvFault.{RecvFault}
use Rattle.tftp_ends.specs.Ends.{Verdict, granted, refused, SendAnswer, Receiver, RecvAnswer, answer_of, receiver_take, receiver_data, sender_ack, sender_timeout, receiver_timeout}
use Rattle.tftp_ends.specs.Input.{Input, nothing, stray, refusal, acked, block}
use Rattle.tws_file.specs.declared.«ruleset».Ruleset.{Ruleset}
use Rattle.tws_best.specs.Best.{Collected}
use Rattle.archive_table.specs.Table.{End, sending, receiving, Transfer, Maps, Table, Grant, all, no_memory, unkept, map_of, has_slot, memory_verdict, transfer_input, transfer_at, read_fits, read_with_slot, read_named, read_asked, write_with_slot, write_asked, request_by_packet, request_decoded, table_request, file_come, file_asked, block_answered, data_at, sending_goes_on, ack_at, transfer_by_input, datagram_at, table_datagram, receiving_goes_on, waits_at, timeout_at, table_timeout, has_long_text}
use Rattle.tws_file.specs.Names.{ruleset_named}

fits_same : (long : Bool) (v : Verdict) (spare : ℕ) (from : Endpoint) (c : Collected) (s : Table) → (read_fits long v spare from c s).server.request ≡ s.request
fits_same true v spare from c s = refl
fits_same false granted spare from c s = refl
fits_same false refused spare from c s = refl

placed_same : (slot : Bool) (v : Verdict) (spare : ℕ) (from : Endpoint) (c : Collected) (s : Table) → (read_with_slot slot v spare from c s).server.request ≡ s.request
placed_same true v spare from c s = fits_same (has_long_text c) v spare from c s
placed_same false v spare from c s = refl

named_same : (rules : Option Ruleset) (v : Verdict) (spare : ℕ) (from : Endpoint) (s : Table) → (read_named rules v spare from s).server.request ≡ s.request
named_same (Some rules) v spare from s = placed_same (has_slot s) v spare from (map_of rules s.maps) s
named_same None v spare from s = refl

read_same : (octet : Bool) (v : Verdict) (spare : ℕ) (from : Endpoint) (name : List ℕ) (s : Table) → (read_asked octet v spare from name s).server.request ≡ s.request
read_same true v spare from name s = named_same (ruleset_named name) v spare from s
read_same false v spare from name s = refl

write_placed_same : (slot : Bool) (v : Verdict) (spare : ℕ) (from : Endpoint) (s : Table) → (write_with_slot slot v spare from s).server.request ≡ s.request
write_placed_same true granted spare from s = refl
write_placed_same true refused spare from s = refl
write_placed_same false v spare from s = refl

write_same : (octet : Bool) (v : Verdict) (spare : ℕ) (from : Endpoint) (s : Table) → (write_asked octet v spare from s).server.request ≡ s.request
write_same true v spare from s = write_placed_same (has_slot s) v spare from s
write_same false v spare from s = refl

packet_same : (v : Verdict) (spare : ℕ) (from : Endpoint) (p : Packet) (s : Table) → (request_by_packet v spare from p s).server.request ≡ s.request
packet_same v spare from (read name mode) s = read_same (is_octet mode) v spare from name s
packet_same v spare from (write name mode) s = write_same (is_octet mode) v spare from s
packet_same v spare from (data_block n body) s = refl
packet_same v spare from (ack n) s = refl
packet_same v spare from (error code text) s = refl

decoded_same : (v : Verdict) (spare : ℕ) (from : Endpoint) (r : Result Packet PacketFault) (s : Table) → (request_decoded v spare from r s).server.request ≡ s.request
decoded_same v spare from (Ok p) s = packet_same v spare from p s
decoded_same v spare from (Err e) s = refl

-- a request leaves the request port
pub request_same : (v : Verdict) (spare : ℕ) (from : Endpoint) (bytes : List ℕ) (s : Table) → (table_request v spare from bytes s).server.request ≡ s.request
request_same v spare from bytes s = decoded_same v spare from (decode_bytes bytes) s

come_same : (grant : Grant) (maps : Maps) (port : ℕ) (peer : Endpoint) (file : List ℕ) (r : Receiver) (out : Option (List ℕ))
    (s : Table) → (file_come grant maps port peer file r out s).server.request ≡ s.request
come_same all maps port peer file r out s = refl
come_same no_memory maps port peer file r out s = refl
come_same unkept maps port peer file r out s = refl

asked_same : (file : Option (List ℕ)) (grant : Grant) (maps : Maps) (port : ℕ) (peer : Endpoint) (r : Receiver)
    (out : Option (List ℕ)) (s : Table) → (file_asked file grant maps port peer r out s).server.request ≡ s.request
asked_same (Some file) grant maps port peer r out s = come_same grant maps port peer file r out s
asked_same None grant maps port peer r out s = refl

block_same : (result : Result (Option (List ℕ)) RecvFault) (grant : Grant) (maps : Maps) (port : ℕ) (peer : Endpoint)
    (r : Receiver) (s : Table) → (block_answered result grant maps port peer r s).server.request ≡ s.request
block_same (Ok out) grant maps port peer r s = asked_same (receiver_take r).file grant maps port peer (receiver_take r).receiver out s
block_same (Err e) grant maps port peer r s = refl

data_same : (end : End) (grant : Grant) (maps : Maps) (port : ℕ) (peer : Endpoint) (n : ℕ) (body : List ℕ) (s : Table) → (data_at end grant maps port peer n body s).server.request ≡ s.request
data_same (sending e) grant maps port peer n body s = refl
data_same (receiving r) grant maps port peer n body s =
    block_same (answer_of (receiver_data (memory_verdict grant) n body r).result) grant maps port peer
    (receiver_data (memory_verdict grant) n body r).receiver s

sender_same : (state : SendState) (port : ℕ) (peer : Endpoint) (a : SendAnswer) (s : Table) → (sending_goes_on state port peer a s).server.request ≡ s.request
sender_same send.Running port peer a s = refl
sender_same send.Finished port peer a s = refl
sender_same send.TimedOut port peer a s = refl

ack_same : (end : End) (port : ℕ) (peer : Endpoint) (n : ℕ) (s : Table) → (ack_at end port peer n s).server.request ≡ s.request
ack_same (sending e) port peer n s = sender_same (sender_ack n e).sender.state port peer (sender_ack n e) s
ack_same (receiving r) port peer n s = refl

received_same : (h : Input) (grant : Grant) (maps : Maps) (port : ℕ) (from : Endpoint) (t : Transfer) (s : Table) → (transfer_by_input h grant maps port from t s).server.request ≡ s.request
received_same nothing grant maps port from t s = refl
received_same stray grant maps port from t s = refl
received_same (refusal code) grant maps port from t s = refl
received_same (acked n) grant maps port from t s = ack_same t.end port t.peer n s
received_same (block n body) grant maps port from t s = data_same t.end grant maps port t.peer n body s

datagram_at_same : (t : Option Transfer) (grant : Grant) (maps : Maps) (port : ℕ) (from : Endpoint) (bytes : List ℕ) (s : Table) →
    (datagram_at t grant maps port from bytes s).server.request ≡ s.request
datagram_at_same (Some t) grant maps port from bytes s = received_same (transfer_input t.peer from bytes) grant maps port from t s
datagram_at_same None grant maps port from bytes s = refl

-- a datagram at a transfer's port leaves the request port
pub datagram_same : (grant : Grant) (maps : Maps) (port : ℕ) (from : Endpoint) (bytes : List ℕ) (s : Table) → (table_datagram grant maps port from bytes s).server.request ≡ s.request
datagram_same grant maps port from bytes s = datagram_at_same (transfer_at port s) grant maps port from bytes s

receiver_same : (state : RecvState) (port : ℕ) (peer : Endpoint) (a : RecvAnswer) (s : Table) → (receiving_goes_on state port peer a s).server.request ≡ s.request
receiver_same recv.Running port peer a s = refl
receiver_same recv.Complete port peer a s = refl
receiver_same recv.TimedOut port peer a s = refl
receiver_same recv.Over port peer a s = refl

waits_same : (end : End) (port : ℕ) (peer : Endpoint) (s : Table) → (waits_at end port peer s).server.request ≡ s.request
waits_same (sending e) port peer s = sender_same (sender_timeout e).sender.state port peer (sender_timeout e) s
waits_same (receiving r) port peer s = receiver_same (receiver_timeout r).receiver.state port peer (receiver_timeout r) s

timeout_at_same : (t : Option Transfer) (port : ℕ) (s : Table) → (timeout_at t port s).server.request ≡ s.request
timeout_at_same (Some t) port s = waits_same t.end port t.peer s
timeout_at_same None port s = refl

-- a time-out leaves the request port
pub timeout_same : (port : ℕ) (s : Table) → (table_timeout port s).server.request ≡ s.request
timeout_same port s = timeout_at_same (transfer_at port s) port s

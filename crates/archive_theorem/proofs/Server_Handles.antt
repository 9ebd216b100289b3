-- A datagram arrives at a port of the server other than the request port, and the invariant still holds.
use Rattle.std.proofs.Common.{◌≡◌, ℕ, Bool, true, false, List, Option, None, Some, Result, Ok, Err, refl, ap, sym, ◌∙◌, subst, ⊎_elim}
use Rattle.tftp_packet.specs.declared.endpoint.Endpoint.{Endpoint}
use Rattle.tftp_packet.specs.declared.packet_fault.PacketFault.{PacketFault}
use Rattle.tftp_packet.specs.declared.refusal.Refusal.TheVariants.{UnknownTransfer}
use Rattle.tftp_packet.specs.Packet.{Packet, read, write, data_block, ack, error}
use Rattle.tftp_packet.specs.Refusal.{refusal_packet}
use Rattle.tftp_packet.specs.Decode.{decode_bytes}
use Rattle.tftp_packet.proofs.Sent.{data_size}
use Rattle.tftp_ends.specs.Input.{input_of_packet, input_from_peer, input_from_other}
use Rattle.archive_table.specs.Table.{Maps, Grant, End, Transfer, sending, receiving, transfer_at, out_from, is_same, transfer_input_decoded, transfer_by_input, data_at, ack_at, datagram_at, table_datagram}
use Rattle.archive_model.specs.World.{Datagram, World, after_transfer}
use Rattle.archive_theorem.specs.Headline.{IsOwn}
use Rattle.archive_model.proofs.Places.{Has}
use Rattle.archive_model.proofs.Endpoints.{endpoint_is, exact_endpoint}
use Rattle.archive_theorem.proofs.Claim_Past.{IsStranger, PutsBlock, Binds, IsBound, IsLiveEnd}
use Rattle.archive_theorem.proofs.Claim_Owns.{no_stranger}
use Rattle.archive_theorem.proofs.Claim_Invariant.{Holds}
use Rattle.archive_theorem.proofs.Server_Sends.{from_port, honest_refusal, replies-holds, closes-holds}
use Rattle.archive_theorem.proofs.Server_Acks.{ack-holds}
use Rattle.archive_theorem.proofs.Server_Receives.{MergesTaken, data-holds}

module _ (w : World) (h : Holds w) (d : Datagram) (among : Has w.net d) (ours : d.target.host ≡ w.home.host) (grant : Grant)
    (maps : Maps) (t : Transfer) (is : transfer_at d.target.port w.server ≡ Some t) where
  abbrev port : ℕ
  port = d.target.port

  -- a DATA or an ACK from the peer
  bound : d.source ≡ t.peer → (p : Packet) → decode_bytes d.bytes ≡ Ok p → Binds (Ok p) → IsBound w.past t.peer port
  bound same p reads binds =
      record {
        datagram = d;
        among = among;
        source = same;
        target = endpoint_is d.target w.home.host port ours refl;
        binds = subst Binds (sym reads) binds;
      }

  -- a DATA from the peer is a block of its put
  block_received : d.source ≡ t.peer → (n : ℕ) (body : List ℕ) → decode_bytes d.bytes ≡ Ok (data_block n body) → IsOwn w t.peer → PutsBlock w.past t.peer n body
  block_received same n body reads own =
      ⊎_elim
      (λ stranger. no_stranger w.past t.peer own (subst (IsStranger w.past) same stranger))
      (λ says.
      ⊎_elim
      (λ puts. subst (λ (e : Endpoint). PutsBlock w.past e n body) same puts)
      (λ serves. absurd ((h.live port t is).away (ap (λ (e : Endpoint). e.host) (sym same) ∙ serves.ours)))
      (says (data_block n body) reads))
      (h.net d among).says

  -- a DATA from the peer
  data_received : d.source ≡ t.peer → (n : ℕ) (body : List ℕ) → decode_bytes d.bytes ≡ Ok (data_block n body) → (end : End) → t.end ≡ end →
      IsLiveEnd w.past t.peer port end → MergesTaken w (data_at end grant maps port t.peer n body w.server) →
      Holds (after_transfer (data_at end grant maps port t.peer n body w.server) w)
  data_received same n body reads (sending s) end there joined = h
  data_received same n body reads (receiving r) end there joined =
      data-holds w h port t is r end there n body (data_size d.bytes n body reads) grant maps (bound same (data_block n body) reads tt)
      (block_received same n body reads) joined

  -- an ACK from the peer
  ack_received : (n : ℕ) → (end : End) → IsLiveEnd w.past t.peer port end → Holds (after_transfer (ack_at end port t.peer n w.server) w)
  ack_received n (sending s) there = ack-holds w h port t is n s there
  ack_received n (receiving r) there = h

  -- any packet from the peer
  peer_received : d.source ≡ t.peer → (p : Packet) → decode_bytes d.bytes ≡ Ok p →
      MergesTaken w (transfer_by_input (input_from_peer p) grant maps port d.source t w.server) →
      Holds (after_transfer (transfer_by_input (input_from_peer p) grant maps port d.source t w.server) w)
  peer_received same (read name mode) reads joined = h
  peer_received same (write name mode) reads joined = h
  peer_received same (data_block n body) reads joined = data_received same n body reads t.end refl (h.live port t is).end joined
  peer_received same (ack n) reads joined = ack_received n t.end (h.live port t is).end
  peer_received same (error code text) reads joined = closes-holds w h port t.peer None tt

  -- a packet from another endpoint is answered with an ERROR
  refused : Holds (after_transfer (transfer_by_input (input_from_other (ack 0)) grant maps port d.source t w.server) w)
  refused =
      replies-holds w h (out_from port d.source (refusal_packet UnknownTransfer)) (honest_refusal w (from_port w port) d.source UnknownTransfer)

  -- any packet from another endpoint
  other_received : (p : Packet) → Holds (after_transfer (transfer_by_input (input_from_other p) grant maps port d.source t w.server) w)
  other_received (read name mode) = refused
  other_received (write name mode) = refused
  other_received (data_block n body) = refused
  other_received (ack n) = refused
  other_received (error code text) = h

  -- any packet
  packet_received : (p : Packet) → decode_bytes d.bytes ≡ Ok p → (same : Bool) → is_same d.source t.peer ≡ same →
      MergesTaken w (transfer_by_input (input_of_packet same p) grant maps port d.source t w.server) →
      Holds (after_transfer (transfer_by_input (input_of_packet same p) grant maps port d.source t w.server) w)
  packet_received p reads true same joined = peer_received (exact_endpoint d.source t.peer same) p reads joined
  packet_received p reads false same joined = other_received p

  -- any bytes
  decoded_received : (decoded : Result Packet PacketFault) → decode_bytes d.bytes ≡ decoded →
      MergesTaken w (transfer_by_input (transfer_input_decoded t.peer d.source decoded) grant maps port d.source t w.server) →
      Holds (after_transfer (transfer_by_input (transfer_input_decoded t.peer d.source decoded) grant maps port d.source t w.server) w)
  decoded_received (Ok p) reads joined = packet_received p reads (is_same d.source t.peer) refl joined
  decoded_received (Err e) reads joined = h

module _ (w : World) (h : Holds w) (d : Datagram) (among : Has w.net d) (ours : d.target.host ≡ w.home.host) (grant : Grant) (maps : Maps) where
  -- by the transfer at the port
  found_received : (found : Option Transfer) → transfer_at d.target.port w.server ≡ found →
      MergesTaken w (datagram_at found grant maps d.target.port d.source d.bytes w.server) →
      Holds (after_transfer (datagram_at found grant maps d.target.port d.source d.bytes w.server) w)
  found_received None is joined = h
  found_received (Some t) is joined = decoded_received w h d among ours grant maps t is (decode_bytes d.bytes) refl joined

  -- a datagram at a port of the server keeps the invariant
  pub datagram-holds : MergesTaken w (table_datagram grant maps d.target.port d.source d.bytes w.server) →
      Holds (after_transfer (table_datagram grant maps d.target.port d.source d.bytes w.server) w)
  datagram-holds joined = found_received (transfer_at d.target.port w.server) refl joined

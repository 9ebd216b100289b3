-- What the server does with each request (it refuses it, or opens a transfer): the invariant still holds.
use Rattle.std.proofs.Common.{◌≡◌, ◌⊎◌, ℕ, ◌≤◌, Bool, true, false, List, length, Option, None, Some, Result, Ok, Err, refl, inr, ⊎_elim, arith}
use Rattle.std.proofs.lemmas.Bool.{ltb-false}
use Rattle.tftp_packet.specs.declared.packet_fault.PacketFault.{PacketFault}
use Rattle.tftp_packet.specs.declared.refusal.Refusal.TheVariants.{OctetOnly, NoSuchFile, ServerBusy, CollectionTooLong, OutOfMemory}
use Rattle.tftp_packet.specs.Packet.{Packet, read, write, data_block, ack, error, encode, is_octet}
use Rattle.tftp_packet.specs.Decode.{decode_bytes}
use Rattle.tftp_ends.specs.declared.limits.TheConstants.{MAX_FILE}
use Rattle.tftp_ends.specs.Ends.{Verdict, granted, refused, sender_start, data_packet, receiver_start}
use Rattle.tftp_ends.proofs.Steps.{IsReceiver-start, ack-reads_back}
use Rattle.tws_file.specs.declared.«ruleset».Ruleset.{Ruleset}
use Rattle.tws_best.specs.Best.{collection_text}
use Rattle.archive_table.specs.Table.{sending, receiving, transfer_at, map_of, has_slot, read_opens, read_fits, read_with_slot, read_named, read_asked, write_opens, write_with_slot, write_asked, request_by_packet, request_decoded, table_request, has_long_text}
use Rattle.tws_file.specs.Names.{ruleset_named}
use Rattle.archive_model.specs.World.{Datagram, World, to_write, to_read, after_request, asked_named, asked_packet, asked_decoded, asked_of}
use Rattle.archive_theorem.specs.Headline.{IsOwn}
use Rattle.archive_model.proofs.Places.{Has, Has-last, either}
use Rattle.archive_theorem.proofs.Claim_Past.{IsStranger, AsksToRead, AsksToWrite, AcksPut, ServerAcks, ReceivesPut}
use Rattle.archive_theorem.proofs.Claim_Lasts.{stranger-lasts, put-lasts}
use Rattle.archive_theorem.proofs.Claim_Owns.{own-before, no_stranger}
use Rattle.archive_theorem.proofs.Claim_Invariant.{Holds}
use Rattle.archive_theorem.proofs.Server_Sends.{from_port, honest_packet}
use Rattle.archive_theorem.proofs.Server_Opens.{opened, grows, IsFine, opened-holds, reads, writes, writer_away, refuses-holds, read_fine}

module _ (w : World) (h : Holds w) (d : Datagram) (among : Has w.net d) (spare : ℕ) (free : transfer_at spare w.server ≡ None) where
  -- ---- a request to read

  -- a read, whether or not there is memory
  read_memory : (verdict : Verdict) (rules : Ruleset) (name : List ℕ) → ruleset_named name ≡ Some rules →
      IsStranger w.past d.source ⊎ AsksToRead w.past d.source name → length (collection_text (map_of rules w.server.maps)) ≤ MAX_FILE →
      Holds (after_request d.source spare (to_read rules) (read_opens verdict spare d.source (map_of rules w.server.maps) w.server) w)
  read_memory granted rules name is whose short =
      let file = collection_text (map_of rules w.server.maps) in
      opened-holds w h spare free d.source (to_read rules) (sending (sender_start file)) (encode (data_packet file 1))
      (read_fine w h d among granted spare free rules short name is whose)
  read_memory refused rules name is whose short = refuses-holds w h d among spare (to_read rules) OutOfMemory

  -- whether or not the text is too long
  read_size : (long : Bool) → (verdict : Verdict) (rules : Ruleset) (name : List ℕ) → ruleset_named name ≡ Some rules →
      IsStranger w.past d.source ⊎ AsksToRead w.past d.source name → has_long_text (map_of rules w.server.maps) ≡ long →
      Holds (after_request d.source spare (to_read rules) (read_fits long verdict spare d.source (map_of rules w.server.maps) w.server) w)
  read_size true verdict rules name is whose size = refuses-holds w h d among spare (to_read rules) CollectionTooLong
  read_size false verdict rules name is whose size =
      read_memory verdict rules name is whose (ltb-false MAX_FILE (length (collection_text (map_of rules w.server.maps))) size)

  -- whether or not there is a slot
  read_place : (position : Bool) → (verdict : Verdict) (rules : Ruleset) (name : List ℕ) → ruleset_named name ≡ Some rules →
      IsStranger w.past d.source ⊎ AsksToRead w.past d.source name →
      Holds (after_request d.source spare (to_read rules) (read_with_slot position verdict spare d.source (map_of rules w.server.maps) w.server) w)
  read_place true verdict rules name is whose =
      read_size (has_long_text (map_of rules w.server.maps)) verdict rules name is whose refl
  read_place false verdict rules name is whose = refuses-holds w h d among spare (to_read rules) ServerBusy

  -- whether or not the name is that of a collection
  read_name : (found : Option Ruleset) → (verdict : Verdict) (name : List ℕ) → ruleset_named name ≡ found →
      IsStranger w.past d.source ⊎ AsksToRead w.past d.source name →
      Holds (after_request d.source spare (asked_named found) (read_named found verdict spare d.source w.server) w)
  read_name (Some rules) verdict name is whose = read_place (has_slot w.server) verdict rules name is whose
  read_name None verdict name is whose = refuses-holds w h d among spare to_write NoSuchFile

  -- whether or not the mode is octet
  read_mode : (octet : Bool) → (verdict : Verdict) (name : List ℕ) → IsStranger w.past d.source ⊎ AsksToRead w.past d.source name →
      Holds (after_request d.source spare (asked_named (ruleset_named name)) (read_asked octet verdict spare d.source name w.server) w)
  read_mode true verdict name whose = read_name (ruleset_named name) verdict name refl whose
  read_mode false verdict name whose = refuses-holds w h d among spare (asked_named (ruleset_named name)) OctetOnly

  -- ---- a request to write

  -- the world after a transfer is opened for a write
  abbrev writing : World
  writing = opened w h spare free d.source to_write (receiving receiver_start) (encode (ack 0))

  -- its first ACK is of no block
  none_acked : AsksToWrite w.past d.source → AcksPut writing.past d.source 0
  none_acked asks =
      let g = grows w h spare free d.source to_write (receiving receiver_start) (encode (ack 0)) in
      record { file = asks.file; began = put-lasts g d.source asks.file asks.began; is_taken = λ e. absurd (omega arith) }

  -- no block of the put has come yet
  none_come : AsksToWrite w.past d.source → ReceivesPut writing.past d.source receiver_start
  none_come asks =
      let g = grows w h spare free d.source to_write (receiving receiver_start) (encode (ack 0)) in
      record { file = asks.file; began = put-lasts g d.source asks.file asks.began; come = refl }

  -- a put has begun there, if the ports are its own
  own_asks : IsStranger w.past d.source ⊎ AsksToWrite w.past d.source → IsOwn writing d.source → AsksToWrite w.past d.source
  own_asks whose own =
      let g = grows w h spare free d.source to_write (receiving receiver_start) (encode (ack 0)) in
      ⊎_elim (no_stranger w.past d.source (own-before g d.source own)) (λ asks. asks) whose

  -- so all is shown that an opening needs
  write_fine : IsStranger w.past d.source ⊎ AsksToWrite w.past d.source → IsFine w h spare free d.source to_write (receiving receiver_start) (encode (ack 0))
  write_fine whose =
      let g = grows w h spare free d.source to_write (receiving receiver_start) (encode (ack 0)) in
      let acks : ServerAcks writing.past (from_port w spare) d.source 0 = record { ours = refl; whom = λ own. none_acked (own_asks whose own) } in
      record {
        away = writer_away w h d among whose;
        live = record {
          bounds = IsReceiver-start;
          count = length w.taken;
          opened = record { among = Has-last w.opened _ };
          whose = λ own. none_come (own_asks whose own);
        };
        honest = honest_packet writing (from_port w spare) d.source (ack 0) (ack-reads_back 0 (omega arith)).decoded (inr acks);
        whose = either (stranger-lasts g d.source)
            (λ (asks : AsksToWrite w.past d.source). (asks.file, put-lasts g d.source asks.file asks.began)) whose;
      }

  -- a write, whether or not there is memory
  write_memory : (verdict : Verdict) → IsStranger w.past d.source ⊎ AsksToWrite w.past d.source →
      Holds (after_request d.source spare to_write (write_opens verdict spare d.source w.server) w)
  write_memory granted whose =
      opened-holds w h spare free d.source to_write (receiving receiver_start) (encode (ack 0)) (write_fine whose)
  write_memory refused whose = refuses-holds w h d among spare to_write OutOfMemory

  -- whether or not there is a slot
  write_place : (position : Bool) → (verdict : Verdict) → IsStranger w.past d.source ⊎ AsksToWrite w.past d.source →
      Holds (after_request d.source spare to_write (write_with_slot position verdict spare d.source w.server) w)
  write_place true verdict whose = write_memory verdict whose
  write_place false verdict whose = refuses-holds w h d among spare to_write ServerBusy

  -- whether or not the mode is octet
  write_mode : (octet : Bool) → (verdict : Verdict) → IsStranger w.past d.source ⊎ AsksToWrite w.past d.source →
      Holds (after_request d.source spare to_write (write_asked octet verdict spare d.source w.server) w)
  write_mode true verdict whose = write_place (has_slot w.server) verdict whose
  write_mode false verdict whose = refuses-holds w h d among spare to_write OctetOnly

  -- ---- a datagram

  -- any packet
  packet_asks : (verdict : Verdict) (p : Packet) → decode_bytes d.bytes ≡ Ok p →
      Holds (after_request d.source spare (asked_packet p) (request_by_packet verdict spare d.source p w.server) w)
  packet_asks verdict (read name mode) is = read_mode (is_octet mode) verdict name (reads w h d among name mode is)
  packet_asks verdict (write name mode) is = write_mode (is_octet mode) verdict (writes w h d among name mode is)
  packet_asks verdict (data_block n body) is = h
  packet_asks verdict (ack n) is = h
  packet_asks verdict (error code words) is = h

  -- any bytes
  decoded_asks : (verdict : Verdict) (decoded : Result Packet PacketFault) → decode_bytes d.bytes ≡ decoded →
      Holds (after_request d.source spare (asked_decoded decoded) (request_decoded verdict spare d.source decoded w.server) w)
  decoded_asks verdict (Ok p) is = packet_asks verdict p is
  decoded_asks verdict (Err e) is = h

  -- a request keeps the invariant
  pub request-holds : (verdict : Verdict) → Holds (after_request d.source spare (asked_of d.bytes) (table_request verdict spare d.source d.bytes w.server) w)
  request-holds verdict = decoded_asks verdict (decode_bytes d.bytes) refl

-- What each request does: it takes no file, changes no collection, and opens the spare port or no port.
use Rattle.std.specs.Prelude.{◌≡◌, ℕ, Bool, true, false, cond, List, Option, None, Some, Result, Ok, Err}
use Rattle.std.proofs.Common.{refl}
use Rattle.tftp_packet.specs.declared.endpoint.Endpoint.{Endpoint}
use Rattle.tftp_packet.specs.declared.packet_fault.PacketFault.{PacketFault}
use Rattle.tftp_packet.specs.Packet.{Packet, read, write, data_block, ack, error, is_octet}
use Rattle.tftp_packet.specs.Decode.{decode_bytes}
use Rattle.tftp_ends.specs.Ends.{Verdict, granted, refused}
use Rattle.tws_file.specs.declared.«ruleset».Ruleset.{Ruleset}
use Rattle.tws_best.specs.Best.{Collected}
use Rattle.archive_table.specs.Table.{Table, TableAnswer, End, Merges, transfer_at, has_slot, map_of, opens_if, read_fits, read_with_slot, read_named, read_asked, write_with_slot, write_asked, request_by_packet, request_decoded, table_request, has_long_text}
use Rattle.tws_file.specs.Names.{ruleset_named}
use Rattle.archive_server.specs.Timers.{live_ports}
use Rattle.archive_server.proofs.Ports.{insert_port, keys_insert}

-- no file is merged, and the live ports are those before, with the spare one if it was opened
pub record RequestStep (spare : ℕ) (s : Table) (a : TableAnswer) : Type 0 where
  pub merges : Merges a.step.taken s.maps a.server.maps
  pub ports : live_ports a.server ≡ cond a.step.opened (insert_port spare (live_ports s)) (live_ports s)

-- a transfer is opened, if there is memory
opens_step : (v : Verdict) (spare : ℕ) (from : Endpoint) (end : End) (first : List ℕ) (s : Table) → transfer_at spare s ≡ None → RequestStep spare s (opens_if v spare from end first s)
opens_step granted spare from end first s free =
    record { merges = refl; ports = keys_insert spare s.live _ free }
opens_step refused spare from end first s free = record { merges = refl; ports = refl }

-- a read, whether or not the text is too long
fits_step : (long : Bool) (v : Verdict) (spare : ℕ) (from : Endpoint) (c : Collected) (s : Table) → transfer_at spare s ≡ None → RequestStep spare s (read_fits long v spare from c s)
fits_step true v spare from c s free = record { merges = refl; ports = refl }
fits_step false v spare from c s free = opens_step v spare from _ _ s free

-- whether or not there is a slot
placed_step : (place : Bool) (v : Verdict) (spare : ℕ) (from : Endpoint) (c : Collected) (s : Table) → transfer_at spare s ≡ None → RequestStep spare s (read_with_slot place v spare from c s)
placed_step true v spare from c s free = fits_step (has_long_text c) v spare from c s free
placed_step false v spare from c s free = record { merges = refl; ports = refl }

-- whether or not the name is that of a collection
named_step : (rules : Option Ruleset) (v : Verdict) (spare : ℕ) (from : Endpoint) (s : Table) → transfer_at spare s ≡ None → RequestStep spare s (read_named rules v spare from s)
named_step (Some rules) v spare from s free = placed_step (has_slot s) v spare from (map_of rules s.maps) s free
named_step None v spare from s free = record { merges = refl; ports = refl }

-- whether or not the mode is octet
read_step : (octet : Bool) (v : Verdict) (spare : ℕ) (from : Endpoint) (name : List ℕ) (s : Table) → transfer_at spare s ≡ None → RequestStep spare s (read_asked octet v spare from name s)
read_step true v spare from name s free = named_step (ruleset_named name) v spare from s free
read_step false v spare from name s free = record { merges = refl; ports = refl }

-- a write, whether or not there is a slot
write_step : (place : Bool) (v : Verdict) (spare : ℕ) (from : Endpoint) (s : Table) → transfer_at spare s ≡ None → RequestStep spare s (write_with_slot place v spare from s)
write_step true v spare from s free = opens_step v spare from _ _ s free
write_step false v spare from s free = record { merges = refl; ports = refl }

-- whether or not the mode is octet
asked_step : (octet : Bool) (v : Verdict) (spare : ℕ) (from : Endpoint) (s : Table) → transfer_at spare s ≡ None → RequestStep spare s (write_asked octet v spare from s)
asked_step true v spare from s free = write_step (has_slot s) v spare from s free
asked_step false v spare from s free = record { merges = refl; ports = refl }

-- any packet
packet_step : (p : Packet) (v : Verdict) (spare : ℕ) (from : Endpoint) (s : Table) → transfer_at spare s ≡ None → RequestStep spare s (request_by_packet v spare from p s)
packet_step (read name mode) v spare from s free = read_step (is_octet mode) v spare from name s free
packet_step (write name mode) v spare from s free = asked_step (is_octet mode) v spare from s free
packet_step (data_block n body) v spare from s free = record { merges = refl; ports = refl }
packet_step (ack n) v spare from s free = record { merges = refl; ports = refl }
packet_step (error code text) v spare from s free = record { merges = refl; ports = refl }

-- any bytes
decoded_step : (d : Result Packet PacketFault) (v : Verdict) (spare : ℕ) (from : Endpoint) (s : Table) → transfer_at spare s ≡ None → RequestStep spare s (request_decoded v spare from d s)
decoded_step (Ok p) v spare from s free = packet_step p v spare from s free
decoded_step (Err e) v spare from s free = record { merges = refl; ports = refl }

-- a datagram at the request port, with a spare port that is free
pub server_request_step : (v : Verdict) (spare : ℕ) (from : Endpoint) (bytes : List ℕ) (s : Table) → transfer_at spare s ≡ None → RequestStep spare s (table_request v spare from bytes s)
server_request_step v spare from bytes s free = decoded_step (decode_bytes bytes) v spare from s free

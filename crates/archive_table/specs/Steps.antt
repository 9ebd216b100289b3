-- Definitions for the contracts of private functions, which callers do not need.
use Rattle.std.specs.Prelude.{ℕ, List, Option, None, Some, false}
use Rattle.tftp_packet.specs.declared.endpoint.Endpoint.{Endpoint}
use Rattle.tftp_packet.specs.declared.refusal.Refusal.TheVariants.{OutOfMemory, NotKept}
use Rattle.tftp_packet.specs.Packet.{Packet}
use Rattle.tftp_ends.specs.Input.{input_of_packet}
use Rattle.archive_table.specs.Table.{Maps, Transfer, Table, TableAnswer, Grant, all, no_memory, unkept, table_stays, closes, sends_from, refusal_dgram, is_same, transfer_by_input, dgram_grant}

-- a packet at a port, if that is live
abbrev pub packet_live : Option Transfer → Grant → (maps : Maps) → (port : ℕ) → (from : Endpoint) → Packet → Table → TableAnswer
packet_live (Some t) grant maps port from packet s = transfer_by_input (input_of_packet (is_same from t.peer) packet) grant maps port from t s
packet_live None grant maps port from packet s = table_stays s

-- the grant, judged by the datagram that an end sends
abbrev pub reply_grant : Option (List ℕ) → Grant
reply_grant None = all
reply_grant (Some dgram) = dgram_grant dgram

-- the whole file was received, and its receiver is already at the port, where it waits
abbrev pub file_done : Grant → (maps : Maps) → (port : ℕ) → (peer : Endpoint) → (file : List ℕ) → Option (List ℕ) → Table → TableAnswer
file_done all maps port peer file out s =
    record {
      server = record { request = s.request; maps = maps; live = s.live };
      step = record { out = sends_from port peer out; opened = false; taken = Some (record { peer = peer; file = file }); closed = false };
    }
file_done no_memory maps port peer file out s = closes port peer (Some (refusal_dgram OutOfMemory)) s
file_done unkept maps port peer file out s = closes port peer (Some (refusal_dgram NotKept)) s

-- How far a transfer of a client came, as the datagrams show that it sent.
use Rattle.std.specs.Prelude.{ℕ, ◌+◌, ◌-◌, ◌/◌, true, false, max, Option, None, option_map, Result, Ok, Err}
use Rattle.tftp_packet.specs.declared.endpoint.Endpoint.{Endpoint}
use Rattle.tftp_packet.specs.declared.packet_fault.PacketFault.{PacketFault}
use Rattle.tftp_packet.specs.declared.sizes.TheConstants.{BLOCK_SIZE}
use Rattle.tftp_packet.specs.Packet.{Packet, read, write, data_block, ack, error}
use Rattle.archive_commands.specs.declared.reached.Reached.{Reached}

-- a server was asked, and has not answered
abbrev pub asking : Endpoint → Reached
asking server = record { server = server; answered = false; block = 0; blocks = None }

-- the same, of a file of this length if that is known
abbrev pub with_length : Reached → (length : Option ℕ) → Reached
with_length r length = record r { blocks = option_map (λ n. n / BLOCK_SIZE + 1) length }

-- this block was received or acknowledged
abbrev pub with_block : Reached → (block : ℕ) → Reached
with_block r block = record r { answered = true; block = max r.block block }

-- This was sent. A DATA says that the block before it was acknowledged, an ACK that its block was received.
abbrev pub noted : Reached → Result Packet PacketFault → Reached
noted r (Ok (read name mode)) = r
noted r (Ok (write name mode)) = r
noted r (Ok (data_block n body)) = with_block r (n - 1)
noted r (Ok (ack n)) = with_block r n
noted r (Ok (error code text)) = r
noted r (Err e) = r

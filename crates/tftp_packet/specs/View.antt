-- A packet as contracts see it, without its layout in memory.
use Rattle.std.specs.Prelude.{Result, Ok, Err}
use Rattle.tftp_packet.specs.declared.packet.Packet as borrowed
use Rattle.tftp_packet.specs.declared.packet.Packet.TheVariants.{Read, Write, Data, Ack, Error}
use Rattle.tftp_packet.specs.declared.packet_fault.PacketFault.{PacketFault}
use Rattle.tftp_packet.specs.Packet.{Packet, read, write, data_block, ack, error}

abbrev pub packet_of : borrowed.Packet → Packet
packet_of (Read name mode) = read name.now mode.now
packet_of (Write name mode) = write name.now mode.now
packet_of (Data block body) = data_block block body.now
packet_of (Ack block) = ack block
packet_of (Error code text) = error code text.now

-- a result of `decode`
abbrev pub decoded_of : Result borrowed.Packet PacketFault → Result Packet PacketFault
decoded_of (Ok p) = Ok (packet_of p)
decoded_of (Err e) = Err e

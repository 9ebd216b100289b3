use Rattle.tftp_packet.proofs.Packets.{IsPacket-encode, decode_bytes-encode, length-encode}
use Rattle.tftp_packet.proofs.laws.sent_packet.Goals as goal

pub returns-clause-packet : goal.returns-clause-packet
returns-clause-packet c = IsPacket-encode

pub returns-clause-decoded : goal.returns-clause-decoded
returns-clause-decoded c = decode_bytes-encode

pub returns-clause-size : goal.returns-clause-size
returns-clause-size c = length-encode

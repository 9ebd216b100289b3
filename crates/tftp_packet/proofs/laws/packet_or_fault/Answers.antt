use Rattle.tftp_packet.proofs.Packets.{packet_or_fault}
use Rattle.tftp_packet.proofs.laws.packet_or_fault.Goals as goal

pub returns : goal.returns
returns c = packet_or_fault

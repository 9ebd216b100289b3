use Rattle.tftp_packet.proofs.Packets.{packet_without_fault}
use Rattle.tftp_packet.proofs.laws.packet_without_fault.Goals as goal

pub returns : goal.returns
returns c = packet_without_fault

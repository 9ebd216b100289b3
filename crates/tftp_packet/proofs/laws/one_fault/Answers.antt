use Rattle.tftp_packet.proofs.Packets.{one_fault}
use Rattle.tftp_packet.proofs.laws.one_fault.Goals as goal

pub returns : goal.returns
returns c = one_fault

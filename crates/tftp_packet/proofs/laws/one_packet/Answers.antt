use Rattle.tftp_packet.proofs.Packets.{one_packet}
use Rattle.tftp_packet.proofs.laws.one_packet.Goals as goal

pub returns : goal.returns
returns c = one_packet

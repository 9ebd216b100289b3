use Rattle.tftp_packet.proofs.Sent.{data_size}
use Rattle.tftp_packet.proofs.laws.data_size.Goals as goal

pub returns : goal.returns
returns c = data_size

use Rattle.tftp_packet.proofs.Cutting.{file_end}
use Rattle.tftp_packet.proofs.laws.file_end.Goals as goal

pub returns : goal.returns
returns c = file_end

use Rattle.tftp_packet.proofs.Cutting.{first_blocks-more}
use Rattle.tftp_packet.proofs.laws.next_block.Goals as goal

pub returns : goal.returns
returns c = first_blocks-more

use Rattle.std.proofs.Common.{rules}
use Rattle.tftp_packet.proofs.owned.OwnedBlocks.file_len.Goals as goal

pub returns : goal.returns
returns g c = search rules

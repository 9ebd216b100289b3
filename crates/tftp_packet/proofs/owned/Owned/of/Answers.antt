use Rattle.std.proofs.Common.{rules}
use Rattle.tftp_packet.proofs.owned.Owned.of.Goals as goal

pub returns : goal.returns
returns g c = search rules

use Rattle.std.proofs.Common.{rules}
use Rattle.tftp_packet.proofs.owned.Owned.into_vec.Goals as goal

pub returns : goal.returns
returns g c = search rules

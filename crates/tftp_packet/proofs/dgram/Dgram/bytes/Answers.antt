use Rattle.std.proofs.Common.{rules}
use Rattle.tftp_packet.proofs.dgram.Dgram.bytes.Goals as goal

pub returns-clause-list : goal.returns-clause-list
returns-clause-list c = search rules

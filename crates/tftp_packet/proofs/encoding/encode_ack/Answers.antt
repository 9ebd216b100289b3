use Rattle.std.proofs.Common.{rules}
use Rattle.tftp_packet.proofs.encoding.encode_ack.Goals as goal

pub returns-clause-packet : goal.returns-clause-packet
returns-clause-packet c = search rules

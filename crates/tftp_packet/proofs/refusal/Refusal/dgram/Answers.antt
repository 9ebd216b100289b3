use Rattle.std.proofs.Common.{rules}
use Rattle.tftp_packet.proofs.refusal.Refusal.dgram.Goals as goal

pub returns-clause-bytes : goal.returns-clause-bytes
returns-clause-bytes c = search rules

pub returns-clause-packet : goal.returns-clause-packet
returns-clause-packet c = search rules

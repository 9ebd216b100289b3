use Rattle.tftp_packet.proofs.Cutting.{joined_first, joined, numbered}
use Rattle.tftp_packet.proofs.laws.joined_blocks.Goals as goal

pub returns-clause-first : goal.returns-clause-first
returns-clause-first c = joined_first

pub returns-clause-joined : goal.returns-clause-joined
returns-clause-joined c = joined

pub returns-clause-numbers : goal.returns-clause-numbers
returns-clause-numbers c = numbered

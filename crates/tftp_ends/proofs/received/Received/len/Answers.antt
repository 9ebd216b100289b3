use Rattle.std.proofs.Common.{rules}
use Rattle.tftp_ends.proofs.received.Received.len.Goals as goal

pub returns-clause-count : goal.returns-clause-count
returns-clause-count g c = search rules

use Rattle.std.proofs.Common.{rules}
use Rattle.tftp_ends.proofs.sender.Sender.start.Goals as goal

pub returns-clause-sender : goal.returns-clause-sender
returns-clause-sender g c = search rules

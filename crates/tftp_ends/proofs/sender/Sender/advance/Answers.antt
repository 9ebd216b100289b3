use Rattle.std.proofs.Common.{rules}
use Rattle.tftp_ends.proofs.sender.Sender.advance.Goals as goal

pub returns-then-is_last-clause-sender : goal.returns-then-is_last-clause-sender
returns-then-is_last-clause-sender g c = search rules

pub returns-clause-sender : goal.returns-clause-sender
returns-clause-sender g c = search rules

pub returns-clause-sends : goal.returns-clause-sends
returns-clause-sends g c = search rules

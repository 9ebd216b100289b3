use Rattle.std.proofs.Common.{rules}
use Rattle.tftp_ends.proofs.sender.Sender.on_ack.Goals as goal

pub returns-then-advance-clause-sent : goal.returns-then-advance-clause-sent
returns-then-advance-clause-sent g c = search rules

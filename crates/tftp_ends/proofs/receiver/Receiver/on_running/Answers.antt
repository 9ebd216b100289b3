use Rattle.std.proofs.Common.{rules}
use Rattle.tftp_ends.proofs.receiver.Receiver.on_running.Goals as goal

pub returns-then-n-self-clause-receiver : goal.returns-then-n-self-clause-receiver
returns-then-n-self-clause-receiver g c = search rules

pub returns-then-n-self-clause-sent : goal.returns-then-n-self-clause-sent
returns-then-n-self-clause-sent g c = search rules

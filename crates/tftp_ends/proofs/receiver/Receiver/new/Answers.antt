use Rattle.std.proofs.Common.{rules}
use Rattle.tftp_ends.proofs.receiver.Receiver.new.Goals as goal

pub returns-clause-receiver : goal.returns-clause-receiver
returns-clause-receiver g c = search rules

pub returns-clause-fits : goal.returns-clause-fits
returns-clause-fits g c = search rules

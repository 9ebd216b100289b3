use Rattle.std.proofs.Common.{rules}
use Rattle.tftp_ends.proofs.receiver.Receiver.on_data.Goals as goal

pub returns-in-Complete-clause-receiver : goal.returns-in-Complete-clause-receiver
returns-in-Complete-clause-receiver g c = search rules

pub returns-in-Complete-clause-sent : goal.returns-in-Complete-clause-sent
returns-in-Complete-clause-sent g c = search rules

pub returns-in-Complete-clause-fits : goal.returns-in-Complete-clause-fits
returns-in-Complete-clause-fits g c = search rules

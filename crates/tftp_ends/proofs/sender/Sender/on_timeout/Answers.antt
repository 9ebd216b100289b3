use Rattle.std.proofs.Common.{rules}
use Rattle.tftp_ends.proofs.sender.Sender.on_timeout.Goals as goal

pub returns-clause-sender : goal.returns-clause-sender
returns-clause-sender g c = search rules

pub returns-clause-sent : goal.returns-clause-sent
returns-clause-sent g c = search rules

pub returns-clause-fits : goal.returns-clause-fits
returns-clause-fits g c = search rules

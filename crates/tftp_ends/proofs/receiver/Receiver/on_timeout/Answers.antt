use Rattle.std.proofs.Common.{rules}
use Rattle.tftp_ends.proofs.receiver.Receiver.on_timeout.Goals as goal

pub returns-after-self-eq-DALLY-clause-receiver : goal.returns-after-self-eq-DALLY-clause-receiver
returns-after-self-eq-DALLY-clause-receiver g c = search rules

pub returns-after-self-eq-DALLY-clause-fits : goal.returns-after-self-eq-DALLY-clause-fits
returns-after-self-eq-DALLY-clause-fits g c = search rules

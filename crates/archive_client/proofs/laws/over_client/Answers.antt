use Rattle.archive_client.proofs.Machine.{over-datagram, over-timeout}
use Rattle.archive_client.proofs.laws.over_client.Goals as goal

pub returns-clause-datagram : goal.returns-clause-datagram
returns-clause-datagram c = over-datagram

pub returns-clause-timeout : goal.returns-clause-timeout
returns-clause-timeout c = over-timeout

use Rattle.archive_client.proofs.LastAck.{datagram-last, timeout-unsent}
use Rattle.archive_client.proofs.laws.last_ack.Goals as goal

pub returns-clause-datagram : goal.returns-clause-datagram
returns-clause-datagram c = datagram-last

pub returns-clause-timeout : goal.returns-clause-timeout
returns-clause-timeout c = timeout-unsent

use Rattle.archive_client.proofs.Machine.{datagram-still, timeout-still}
use Rattle.archive_client.proofs.laws.one_port.Goals as goal

pub returns-clause-datagram : goal.returns-clause-datagram
returns-clause-datagram c = datagram-still

pub returns-clause-timeout : goal.returns-clause-timeout
returns-clause-timeout c = timeout-still

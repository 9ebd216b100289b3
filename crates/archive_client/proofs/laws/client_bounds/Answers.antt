use Rattle.archive_client.proofs.Bounds.{start-fits, datagram-fits, timeout-fits}
use Rattle.archive_client.proofs.laws.client_bounds.Goals as goal

pub returns-clause-start : goal.returns-clause-start
returns-clause-start c = start-fits

pub returns-clause-datagram : goal.returns-clause-datagram
returns-clause-datagram c = datagram-fits

pub returns-clause-timeout : goal.returns-clause-timeout
returns-clause-timeout c = timeout-fits

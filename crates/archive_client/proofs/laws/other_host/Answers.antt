use Rattle.archive_client.proofs.Machine.{other-host}
use Rattle.archive_client.proofs.laws.other_host.Goals as goal

pub returns : goal.returns
returns c = other-host

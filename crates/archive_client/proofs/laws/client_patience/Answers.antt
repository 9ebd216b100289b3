use Rattle.archive_client.proofs.Patience.{run-patient, start-ends}
use Rattle.archive_client.proofs.laws.client_patience.Goals as goal

pub returns-clause-waits : goal.returns-clause-waits
returns-clause-waits c = run-patient

pub returns-clause-ends : goal.returns-clause-ends
returns-clause-ends c = start-ends

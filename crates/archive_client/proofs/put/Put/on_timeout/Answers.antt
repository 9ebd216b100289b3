use Rattle.std.proofs.Common.{rules}
use Rattle.archive_client.proofs.put.Put.on_timeout.Goals as goal

pub returns-clause-client : goal.returns-clause-client
returns-clause-client g c = search rules

pub returns-clause-sent : goal.returns-clause-sent
returns-clause-sent g c = search rules

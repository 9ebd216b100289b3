use Rattle.std.proofs.Common.{rules}
use Rattle.archive_client.proofs.put.Put.on_datagram.Goals as goal

pub returns-in-Refusal-clause-client : goal.returns-in-Refusal-clause-client
returns-in-Refusal-clause-client g c = search rules

pub returns-in-Ack-clause-client : goal.returns-in-Ack-clause-client
returns-in-Ack-clause-client g c = search rules

pub returns-in-Ack-clause-sent : goal.returns-in-Ack-clause-sent
returns-in-Ack-clause-sent g c = search rules

pub returns-in-Nothing-clause-sent : goal.returns-in-Nothing-clause-sent
returns-in-Nothing-clause-sent g c = search rules

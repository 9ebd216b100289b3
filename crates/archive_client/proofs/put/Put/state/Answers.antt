use Rattle.std.proofs.Common.{rules}
use Rattle.archive_client.proofs.put.Put.state.Goals as goal

pub returns-in-Running-clause-is : goal.returns-in-Running-clause-is
returns-in-Running-clause-is g c = search rules

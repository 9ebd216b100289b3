use Rattle.std.proofs.Common.{rules}
use Rattle.archive_server.proofs.server.Server.set_policies.Goals as goal

pub returns : goal.returns
returns g c = search rules

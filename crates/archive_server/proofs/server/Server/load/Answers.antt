use Rattle.std.proofs.Common.{rules}
use Rattle.archive_server.proofs.server.Server.load.Goals as goal

pub returns-in-Ok-clause-loaded : goal.returns-in-Ok-clause-loaded
returns-in-Ok-clause-loaded g c = search rules

use Rattle.std.proofs.Common.{rules}
use Rattle.archive_log.proofs.server_log.ServerLog.into_history.Goals as goal

pub returns : goal.returns
returns g c = search rules

use Rattle.std.proofs.Common.{rules}
use Rattle.archive_log.proofs.log_event.LogEvent.level.Goals as goal

pub returns-in-NotRecorded : goal.returns-in-NotRecorded
returns-in-NotRecorded c = search rules

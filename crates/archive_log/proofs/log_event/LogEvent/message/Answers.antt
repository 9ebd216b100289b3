use Rattle.std.proofs.Common.{rules}
use Rattle.archive_log.proofs.log_event.LogEvent.message.Goals as goal

pub returns-in-Refused : goal.returns-in-Refused
returns-in-Refused c = search rules

use Rattle.std.proofs.Common.{rules}
use Rattle.archive_log.proofs.log_line.LogLine.record.Goals as goal

pub returns : goal.returns
returns c = search rules

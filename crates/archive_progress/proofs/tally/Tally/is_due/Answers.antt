use Rattle.std.proofs.Common.{rules}
use Rattle.archive_progress.proofs.tally.Tally.is_due.Goals as goal

pub returns-then-millis-ge-DELAY : goal.returns-then-millis-ge-DELAY
returns-then-millis-ge-DELAY c = search rules

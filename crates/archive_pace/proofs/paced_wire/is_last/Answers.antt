use Rattle.std.proofs.Common.{rules}
use Rattle.archive_pace.proofs.paced_wire.is_last.Goals as goal

pub returns-in-Ok-Data : goal.returns-in-Ok-Data
returns-in-Ok-Data c = search rules

use Rattle.std.proofs.Common.{rules}
use Rattle.archive_pace.proofs.sparing_wire.is_first.Goals as goal

pub returns-in-Ok-Data : goal.returns-in-Ok-Data
returns-in-Ok-Data c = search rules

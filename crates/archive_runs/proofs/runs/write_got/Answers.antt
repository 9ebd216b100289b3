use Rattle.std.proofs.Common.{rules}
use Rattle.archive_runs.proofs.runs.write_got.Goals as goal

pub returns-in-Err : goal.returns-in-Err
returns-in-Err g c = search rules

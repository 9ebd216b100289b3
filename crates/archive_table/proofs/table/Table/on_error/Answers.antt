use Rattle.std.proofs.Common.{rules}
use Rattle.archive_table.proofs.table.Table.on_error.Goals as goal

pub returns-then-is_with-clause-step : goal.returns-then-is_with-clause-step
returns-then-is_with-clause-step g c = search rules

use Rattle.std.proofs.Common.{rules}
use Rattle.archive_table.proofs.table.Table.is_dallying.Goals as goal

pub returns-in-Some : goal.returns-in-Some
returns-in-Some g c = search rules

use Rattle.std.proofs.Common.{rules}
use Rattle.archive_table.proofs.table.Table.is_live.Goals as goal

pub returns : goal.returns
returns g c = search rules

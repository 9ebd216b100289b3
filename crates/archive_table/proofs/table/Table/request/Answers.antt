use Rattle.std.proofs.Common.{rules}
use Rattle.archive_table.proofs.table.Table.request.Goals as goal

pub returns : goal.returns
returns g c = search rules

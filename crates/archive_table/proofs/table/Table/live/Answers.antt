use Rattle.std.proofs.Common.{rules}
use Rattle.archive_table.proofs.table.Table.live.Goals as goal

pub returns-clause-count : goal.returns-clause-count
returns-clause-count g c = search rules

use Rattle.std.proofs.Common.{rules}
use Rattle.archive_table.proofs.table.Table.collection.Goals as goal

pub returns-in-Lynx : goal.returns-in-Lynx
returns-in-Lynx g c = search rules

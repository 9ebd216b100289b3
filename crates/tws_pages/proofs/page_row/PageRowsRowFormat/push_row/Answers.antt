use Rattle.std.proofs.Common.{◌++◌}
use Rattle.std.specs.Prelude.{codes}
use Rattle.std.specs.List.{flat_map}
use Rattle.tws_tables.proofs.Gathered.{line_some}
use Rattle.tws_pages.specs.Page.{page_cell, page_cells}
use Rattle.tws_pages.proofs.page_row.PageRowsRowFormat.push_row.Goals as goal

pub returns-clause-some : goal.returns-clause-some
returns-clause-some g c = line_some (codes "<tr>" ++ flat_map page_cell (page_cells c.args.solution.now) ++ codes "</tr>")

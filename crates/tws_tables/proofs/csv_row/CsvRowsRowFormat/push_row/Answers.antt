use Rattle.std.specs.List.{join_with_byte}
use Rattle.tws_tables.specs.Csv.{comma, csv_fields}
use Rattle.tws_tables.proofs.Gathered.{line_some}
use Rattle.tws_tables.proofs.csv_row.CsvRowsRowFormat.push_row.Goals as goal

pub returns-clause-some : goal.returns-clause-some
returns-clause-some g c = line_some (join_with_byte comma (csv_fields c.args.self.now.0 c.args.solution.now))

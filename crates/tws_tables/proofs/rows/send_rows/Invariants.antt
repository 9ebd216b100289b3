use Rattle.std.proofs.Common.{◌++◌, take, string_bytes}
use Rattle.byte_output.specs.Output.{Sends}
use Rattle.tws_tables.proofs.Gathered.{of_records}
use Rattle.tws_tables.proofs.rows.send_rows.Given as goal

abbrev pub invariant-loop-record : goal.invariant-loop-record
invariant-loop-record g l =
    Sends (g.W.Write.contents l.fn.out) (g.W.Write.contents l.out) (string_bytes l.fn.text ++ of_records (g.F.RowFormat.row_text l.fn.format) (take l.record-index l.records)) (string_bytes l.text)

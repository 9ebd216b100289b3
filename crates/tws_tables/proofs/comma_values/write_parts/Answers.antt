use Rattle.std.proofs.Common.{[], ◌++◌, string_bytes}
use Rattle.std.proofs.lemmas.Result.{on_ok_weaker, on_err_weaker}
use Rattle.byte_output.proofs.Sending.{Sends-none, at_err, prefix_sent}
use Rattle.tws_file.specs.Record.{records_of}
use Rattle.tws_tables.specs.Csv.{csv_fields, csv_line, csv_names}
use Rattle.tws_tables.specs.Solved.{rows_by}
use Rattle.tws_tables.proofs.Wholes.{names_gathered, names_some, whole_failed, whole_written}
use Rattle.tws_tables.proofs.comma_values.write_parts.Goals as goal

pub returns-in_err-push_names-clause-err : goal.returns-in_err-push_names-clause-err
returns-in_err-push_names-clause-err g c =
    let old = g.W.Write.contents c.args.out.now in
    let rows = rows_by (λ s. csv_line (csv_fields c.args.ruleset s)) (records_of c.args.records.now) in
    at_err c.from_residual.result (prefix_sent old old old [] [] (Sends-none old []) (csv_line csv_names ++ rows) (names_some rows))

pub returns-clause-ok : goal.returns-clause-ok
returns-clause-ok g c =
    let old = g.W.Write.contents c.args.out.now in
    let mid = g.W.Write.contents c.send_rows.new.out in
    let new = g.W.Write.contents c.put.new.out in
    let rows = rows_by (λ s. csv_line (csv_fields c.args.ruleset s)) (records_of c.args.records.now) in
    let text = string_bytes c.send_rows.new.text in
    let gathered = names_gathered old mid rows
    (string_bytes c.new-text.result) (string_bytes c.push_names.new.text) text c.new-text.ensures.bytes c.in_ok-push_names.ensures c.in_ok-send_rows.ensures.ok in
    on_ok_weaker c.put.result (whole_written old mid new (csv_line csv_names ++ rows) text c.as_bytes.result.now c.as_bytes.ensures.value gathered) c.put.ensures.ok

pub returns-clause-err : goal.returns-clause-err
returns-clause-err g c =
    let old = g.W.Write.contents c.args.out.now in
    let mid = g.W.Write.contents c.send_rows.new.out in
    let new = g.W.Write.contents c.put.new.out in
    let rows = rows_by (λ s. csv_line (csv_fields c.args.ruleset s)) (records_of c.args.records.now) in
    let text = string_bytes c.send_rows.new.text in
    let gathered = names_gathered old mid rows
    (string_bytes c.new-text.result) (string_bytes c.push_names.new.text) text c.new-text.ensures.bytes c.in_ok-push_names.ensures c.in_ok-send_rows.ensures.ok in
    on_err_weaker c.put.result (whole_failed old mid new (csv_line csv_names ++ rows) text c.as_bytes.result.now c.as_bytes.ensures.value gathered) c.put.ensures.err

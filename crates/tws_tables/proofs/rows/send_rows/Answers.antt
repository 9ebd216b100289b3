use Rattle.std.proofs.Common.{◌+◌, ◌++◌, take, refl, string_bytes}
use Rattle.byte_output.proofs.Sending.{Sends-then, prefix_then, at_err}
use Rattle.byte_output.proofs.Lines.{prefix_of_all, line_gathered}
use Rattle.tws_tables.proofs.Gathered.{of_records, of_record, of_records-append, of_records-one}
use Rattle.tws_tables.proofs.rows.send_rows.Goals as goal

pub returns-in_err-send_record-clause-err : goal.returns-in_err-send_record-clause-err
returns-in_err-send_record-clause-err g c =
    let f = g.F.RowFormat.row_text c.args.format.now in
    let old = g.W.Write.contents c.args.out.now in
    let mid = g.W.Write.contents c.loop-record.out in
    let new = g.W.Write.contents c.send_record.new.out in
    let start = string_bytes c.args.text.now in
    let i = c.loop-record.record-index in
    let records = c.args.records.now in
    let buffer = string_bytes c.loop-record.text in
    let this = c.record-item.result in
    let gathered = line_gathered (of_records f) (of_record f) (of_records-append f) (of_records-one f) old mid new start records i buffer
    (buffer ++ of_record f this) this c.loop-record.invariant c.loop-record-test.true c.record-item.is refl in
    at_err c.from_residual.result
    (prefix_of_all (of_records f) (of_record f) (of_records-append f) (of_records-one f) old mid new start records (i + 1)
    (prefix_then old mid new
    (start ++ of_records f (take (i + 1) records)) (buffer ++ of_record f this) gathered c.in_err-send_record.ensures.err))

pub loop-record-preserved : goal.loop-record-preserved
loop-record-preserved g c =
    let f = g.F.RowFormat.row_text c.args.format.now in
    let old = g.W.Write.contents c.args.out.now in
    let mid = g.W.Write.contents c.loop-record.out in
    let new = g.W.Write.contents c.send_record.new.out in
    let start = string_bytes c.args.text.now in
    let i = c.loop-record.record-index in
    let records = c.args.records.now in
    let buffer = string_bytes c.loop-record.text in
    let this = c.record-item.result in
    let gathered = line_gathered (of_records f) (of_record f) (of_records-append f) (of_records-one f) old mid new start records i buffer
    (buffer ++ of_record f this) this c.loop-record.invariant c.loop-record-test.true c.record-item.is refl in
    Sends-then old mid new (start ++ of_records f (take (i + 1) records)) (buffer ++ of_record f this) gathered (string_bytes c.send_record.new.text) c.in_ok-send_record.ensures.ok

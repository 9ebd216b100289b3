use Rattle.std.proofs.Common.{◌+◌, ◌++◌, take, refl, string_bytes}
use Rattle.byte_output.proofs.Sending.{Sends-then, at_err}
use Rattle.byte_output.proofs.Lines.{Sends-of-all, line_gathered}
use Rattle.tws_tables.proofs.Listed.{of_records, of_record, of_records-append, of_records-one}
use Rattle.tws_tables.proofs.Pieces.{some_then}
use Rattle.tws_tables.proofs.listing.show_records.Goals as goal

pub returns-in_err-show_record-clause-err : goal.returns-in_err-show_record-clause-err
returns-in_err-show_record-clause-err g c =
    let w = c.args.with_moves in
    let old = g.W.Write.contents c.args.out.now in
    let mid = g.W.Write.contents c.loop-record.out in
    let new = g.W.Write.contents c.show_record.new.out in
    let start = string_bytes c.args.text.now in
    let i = c.loop-record.record-index in
    let records = c.args.records.now in
    let buffer = string_bytes c.loop-record.text in
    let this = c.record-item.result in
    let gathered = line_gathered (of_records w) (of_record w) (of_records-append w)
    (of_records-one w) old mid new start records i buffer
    (buffer ++ of_record w this) this c.loop-record.invariant c.loop-record-test.true c.record-item.is refl in
    let shown = some_then old mid new (start ++ of_records w (take (i + 1) records)) (buffer ++ of_record w this) gathered c.in_err-show_record.ensures.err in
    at_err c.from_residual.result (_, Sends-of-all (of_records w) (of_record w) (of_records-append w) (of_records-one w) old new new start records (i + 1) shown.0 shown.1)

pub loop-record-preserved : goal.loop-record-preserved
loop-record-preserved g c =
    let w = c.args.with_moves in
    let old = g.W.Write.contents c.args.out.now in
    let mid = g.W.Write.contents c.loop-record.out in
    let new = g.W.Write.contents c.show_record.new.out in
    let start = string_bytes c.args.text.now in
    let i = c.loop-record.record-index in
    let records = c.args.records.now in
    let buffer = string_bytes c.loop-record.text in
    let this = c.record-item.result in
    let gathered = line_gathered (of_records w) (of_record w) (of_records-append w)
    (of_records-one w) old mid new start records i buffer
    (buffer ++ of_record w this) this c.loop-record.invariant c.loop-record-test.true c.record-item.is refl in
    Sends-then old mid new (start ++ of_records w (take (i + 1) records)) (buffer ++ of_record w this) gathered (string_bytes c.show_record.new.text) c.in_ok-show_record.ensures.ok

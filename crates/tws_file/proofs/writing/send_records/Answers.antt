use Rattle.std.proofs.Common.{◌+◌, ◌++◌, ◌∙◌, ap, take}
use Rattle.byte_output.proofs.Sending.{Sends-then, prefix_then, at_err}
use Rattle.byte_output.proofs.Lines.{prefix_of_all, line_gathered}
use Rattle.tws_file.proofs.Gathering.{texts, text_of_record, texts-append, texts-one, item_fits}
use Rattle.tws_file.proofs.writing.send_records.Goals as goal

pub head-requires : goal.head-requires
head-requires g c =
    item_fits c.args.records.now c.loop-record.record-index c.record-item.result c.requires c.loop-record-test.true c.record-item.is

pub returns-in_err-send_both-clause-err : goal.returns-in_err-send_both-clause-err
returns-in_err-send_both-clause-err g c =
    let old = g.W.Write.contents c.args.out.now in
    let mid = g.W.Write.contents c.loop-record.out in
    let new = g.W.Write.contents c.send_both.new.out in
    let start = c.args.buffer.now in
    let i = c.loop-record.record-index in
    let records = c.args.records.now in
    let text-is = ap (λ x. x ++ c.tail.result.now) c.as_slice.ensures ∙ ap (λ x. c.head.result ++ x) c.tail.ensures ∙ c.head.ensures in
    let pushed = c.loop-record.buffer ++ (c.as_slice.result.now ++ c.tail.result.now) in
    let gathered = line_gathered texts text_of_record texts-append texts-one old mid new start records i c.loop-record.buffer pushed c.record-item.result c.loop-record.invariant c.loop-record-test.true c.record-item.is
    (ap (λ x. c.loop-record.buffer ++ x) text-is) in
    at_err c.from_residual.result
    (prefix_of_all texts text_of_record texts-append texts-one old mid new start records (i + 1)
    (prefix_then old mid new (start ++ texts (take (i + 1) records)) pushed gathered c.in_err-send_both.ensures.err))

pub loop-record-preserved : goal.loop-record-preserved
loop-record-preserved g c =
    let old = g.W.Write.contents c.args.out.now in
    let mid = g.W.Write.contents c.loop-record.out in
    let new = g.W.Write.contents c.send_both.new.out in
    let start = c.args.buffer.now in
    let i = c.loop-record.record-index in
    let records = c.args.records.now in
    let text-is = ap (λ x. x ++ c.tail.result.now) c.as_slice.ensures ∙ ap (λ x. c.head.result ++ x) c.tail.ensures ∙ c.head.ensures in
    let pushed = c.loop-record.buffer ++ (c.as_slice.result.now ++ c.tail.result.now) in
    let gathered = line_gathered texts text_of_record texts-append texts-one old mid new start records i c.loop-record.buffer pushed c.record-item.result c.loop-record.invariant c.loop-record-test.true c.record-item.is
    (ap (λ x. c.loop-record.buffer ++ x) text-is) in
    Sends-then old mid new (start ++ texts (take (i + 1) records)) pushed gathered c.send_both.new.buffer c.in_ok-send_both.ensures.ok

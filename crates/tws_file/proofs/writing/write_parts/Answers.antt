use Rattle.std.proofs.Common.{[], ◌++◌, subst}
use Rattle.std.proofs.lemmas.Result.{on_ok_weaker, on_err_weaker}
use Rattle.std.specs.Io.KnownBytes.{Appends}
use Rattle.tws_file.specs.Text.{header_text}
use Rattle.byte_output.specs.Output.{AppendsPrefix}
use Rattle.byte_output.proofs.Sending.{at_err, first_prefix, both_sent, both_prefix, all_sent, prefix_then}
use Rattle.tws_file.proofs.Gathering.{texts, after_nothing}
use Rattle.tws_file.proofs.writing.write_parts.Goals as goal

pub returns-in_err-send_both-clause-err : goal.returns-in_err-send_both-clause-err
returns-in_err-send_both-clause-err g c =
    let old = g.W.Write.contents c.args.out.now in
    let mid = g.W.Write.contents c.send_both.new.out in
    let header = header_text c.args.ruleset c.args.word c.args.extra.now in
    let pushed = c.new-buffer.result ++ (c.as_slice.result.now ++ c.args.extra.now) in
    let pushed-is = after_nothing c.new-buffer.result c.as_slice.result.now c.header_head-head.result c.args.extra.now header c.new-buffer.ensures c.as_slice.ensures c.header_head-head.ensures in
    at_err c.from_residual.result (first_prefix old mid mid [] header (texts c.args.records.now) pushed pushed pushed-is c.in_err-send_both.ensures.err)

pub returns-in_err-send_records-clause-err : goal.returns-in_err-send_records-clause-err
returns-in_err-send_records-clause-err g c =
    let old = g.W.Write.contents c.args.out.now in
    let mid = g.W.Write.contents c.send_both.new.out in
    let header = header_text c.args.ruleset c.args.word c.args.extra.now in
    let pushed = c.new-buffer.result ++ (c.as_slice.result.now ++ c.args.extra.now) in
    let pushed-is = after_nothing c.new-buffer.result c.as_slice.result.now c.header_head-head.result c.args.extra.now header c.new-buffer.ensures c.as_slice.ensures c.header_head-head.ensures in
    let new = g.W.Write.contents c.send_records.new.out in
    at_err c.from_residual-in_err-send_records.result
    (both_prefix old mid new [] header
    (texts c.args.records.now) pushed c.send_both.new.buffer pushed-is c.in_ok-send_both.ensures.ok c.in_err-send_records.ensures.err)

pub returns-clause-ok : goal.returns-clause-ok
returns-clause-ok g c =
    let old = g.W.Write.contents c.args.out.now in
    let mid = g.W.Write.contents c.send_both.new.out in
    let header = header_text c.args.ruleset c.args.word c.args.extra.now in
    let pushed = c.new-buffer.result ++ (c.as_slice.result.now ++ c.args.extra.now) in
    let pushed-is = after_nothing c.new-buffer.result c.as_slice.result.now c.header_head-head.result c.args.extra.now header c.new-buffer.ensures c.as_slice.ensures c.header_head-head.ensures in
    let then = g.W.Write.contents c.send_records.new.out in
    let new = g.W.Write.contents c.put.new.out in
    let body = texts c.args.records.now in
    let left = c.send_records.new.buffer in
    let sent = both_sent old mid then [] header body pushed c.send_both.new.buffer pushed-is c.in_ok-send_both.ensures.ok left c.in_ok-send_records.ensures.ok in
    on_ok_weaker c.put.result (λ p. all_sent old then new (header ++ body) left sent (subst (λ x. Appends then new x) c.as_slice-2.ensures p)) c.put.ensures.ok

pub returns-clause-err : goal.returns-clause-err
returns-clause-err g c =
    let old = g.W.Write.contents c.args.out.now in
    let mid = g.W.Write.contents c.send_both.new.out in
    let header = header_text c.args.ruleset c.args.word c.args.extra.now in
    let pushed = c.new-buffer.result ++ (c.as_slice.result.now ++ c.args.extra.now) in
    let pushed-is = after_nothing c.new-buffer.result c.as_slice.result.now c.header_head-head.result c.args.extra.now header c.new-buffer.ensures c.as_slice.ensures c.header_head-head.ensures in
    let then = g.W.Write.contents c.send_records.new.out in
    let new = g.W.Write.contents c.put.new.out in
    let body = texts c.args.records.now in
    let left = c.send_records.new.buffer in
    let sent = both_sent old mid then [] header body pushed c.send_both.new.buffer pushed-is c.in_ok-send_both.ensures.ok left c.in_ok-send_records.ensures.ok in
    on_err_weaker c.put.result (λ p. prefix_then old then new (header ++ body) left sent (subst (λ x. AppendsPrefix then new x) c.as_slice-2.ensures p)) c.put.ensures.err

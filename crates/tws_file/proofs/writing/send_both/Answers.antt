use Rattle.std.proofs.Common.{◌++◌, refl}
use Rattle.std.proofs.lemmas.Result.{on_ok_weaker, on_err_weaker}
use Rattle.byte_output.proofs.Sending.{at_err, first_prefix, both_sent, both_prefix}
use Rattle.tws_file.proofs.writing.send_both.Goals as goal

pub returns-in_err-send-clause-err : goal.returns-in_err-send-clause-err
returns-in_err-send-clause-err g c =
    let old = g.W.Write.contents c.args.out.now in
    let new = g.W.Write.contents c.send.new.out in
    let pushed = c.args.buffer.now ++ c.args.head.now in
    at_err c.from_residual.result (first_prefix old new new c.args.buffer.now c.args.head.now c.args.tail.now pushed pushed refl c.in_err-send.ensures.err)

pub returns-clause-ok : goal.returns-clause-ok
returns-clause-ok g c =
    let old = g.W.Write.contents c.args.out.now in
    let mid = g.W.Write.contents c.send.new.out in
    let new = g.W.Write.contents c.send-2.new.out in
    let pushed = c.args.buffer.now ++ c.args.head.now in
    on_ok_weaker c.send-2.result
    (λ p. both_sent old mid new c.args.buffer.now c.args.head.now c.args.tail.now pushed c.send.new.self refl c.in_ok-send.ensures.ok c.send-2.new.self p) c.send-2.ensures.ok

pub returns-clause-err : goal.returns-clause-err
returns-clause-err g c =
    let old = g.W.Write.contents c.args.out.now in
    let mid = g.W.Write.contents c.send.new.out in
    let new = g.W.Write.contents c.send-2.new.out in
    let pushed = c.args.buffer.now ++ c.args.head.now in
    on_err_weaker c.send-2.result (λ p. both_prefix old mid new c.args.buffer.now c.args.head.now c.args.tail.now pushed c.send.new.self refl c.in_ok-send.ensures.ok p) c.send-2.ensures.err

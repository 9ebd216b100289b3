use Rattle.std.proofs.lemmas.Result.{on_ok_weaker, on_err_weaker}
use Rattle.byte_output.proofs.Sending.{at_err, first_alone, sent_in_turn, prefix_in_turn}
use Rattle.byte_output.proofs.buffer.Buffer.send.Goals as goal

pub returns-in_err-put-clause-err : goal.returns-in_err-put-clause-err
returns-in_err-put-clause-err g c =
    let old = g.W.Write.contents c.args.out.now in
    let mid = g.W.Write.contents c.put.new.out in
    at_err c.from_residual.result
    (first_alone old mid mid c.args.self.now c.args.bytes.now c.as_slice.result.now
    (search (c.as_slice.ensures, c.in_default.ensures, c.self.view_is)) c.in_err-put.ensures.err)

pub returns-clause-ok : goal.returns-clause-ok
returns-clause-ok g c =
    let old = g.W.Write.contents c.args.out.now in
    let mid = g.W.Write.contents c.put.new.out in
    let new = g.W.Write.contents c.send_first.new.out in
    on_ok_weaker c.send_first.result
    (λ p. sent_in_turn old mid new c.args.self.now c.args.bytes.now c.as_slice.result.now
    (search (c.as_slice.ensures, c.in_default.ensures, c.self.view_is)) c.in_ok-put.ensures.ok c.send_first.new.self p) c.send_first.ensures.ok

pub returns-clause-err : goal.returns-clause-err
returns-clause-err g c =
    let old = g.W.Write.contents c.args.out.now in
    let mid = g.W.Write.contents c.put.new.out in
    let new = g.W.Write.contents c.send_first.new.out in
    on_err_weaker c.send_first.result
    (λ p. prefix_in_turn old mid new c.args.self.now c.args.bytes.now c.as_slice.result.now
    (search (c.as_slice.ensures, c.in_default.ensures, c.self.view_is)) c.in_ok-put.ensures.ok p) c.send_first.ensures.err

use Rattle.std.proofs.Common.{◌++◌, sym, ◌∙◌, subst}
use Rattle.std.specs.BTreeMap.{values}
use Rattle.std.specs.Map.Iter.{deref}
use Rattle.std.proofs.lemmas.Map.Iter.{rest_more, rest_all}
use Rattle.byte_output.specs.Output.{Sends}
use Rattle.byte_output.proofs.Sending.{Sends-none, at_err}
use Rattle.tws_best.proofs.BodyTexts.{texts, body_sent, body_cut, all_bodies}
use Rattle.tws_best.proofs.text.send_bodies.Goals as goal

pub loop-body-init : goal.loop-body-init
loop-body-init g c =
    let old = g.W.Write.contents c.args.out.now in
    let whole = c.args.buffer.now ++ texts (values c.args.best.now) in
    let all = c.into_iter-body-iterator.ensures.into_iter_gives ∙ c.values-body-items.ensures.rest in
    subst (λ bodies. Sends old old whole (c.args.buffer.now ++ texts bodies)) (sym all) (Sends-none old whole)

pub returns-in_err-send_body-clause-err : goal.returns-in_err-send_body-clause-err
returns-in_err-send_body-clause-err g c =
    let old = g.W.Write.contents c.args.out.now in
    let mid = g.W.Write.contents c.loop-body.out in
    let new = g.W.Write.contents c.send_body.new.out in
    let more = rest_more deref c.loop-body.body-iterator c.next.new.self c.next.result c.in-Some.body c.in-Some.is c.next.ensures.steps in
    at_err c.from_residual.result
    (body_cut old mid new (c.args.buffer.now ++
    texts (values c.args.best.now)) c.loop-body.buffer c.in-Some.body.now c.next.new.self c.loop-body.body-iterator more c.loop-body.invariant c.in_err-send_body.ensures.err)

pub loop-body-preserved : goal.loop-body-preserved
loop-body-preserved g c =
    let old = g.W.Write.contents c.args.out.now in
    let mid = g.W.Write.contents c.loop-body.out in
    let new = g.W.Write.contents c.send_body.new.out in
    let more = rest_more deref c.loop-body.body-iterator c.next.new.self c.next.result c.in-Some.body c.in-Some.is c.next.ensures.steps in
    body_sent old mid new (c.args.buffer.now ++
    texts (values c.args.best.now)) c.loop-body.buffer c.in-Some.body.now c.next.new.self c.loop-body.body-iterator more c.loop-body.invariant c.send_body.new.buffer c.in_ok-send_body.ensures.ok

pub returns-clause-ok : goal.returns-clause-ok
returns-clause-ok g c =
    all_bodies (g.W.Write.contents c.args.out.now) (g.W.Write.contents c.loop-body.out) (c.args.buffer.now ++ texts (values c.args.best.now)) c.loop-body.buffer c.loop-body.body-iterator
    (rest_all deref c.loop-body.body-iterator c.next.new.self c.next.result c.in-None.is c.next.ensures.steps) c.loop-body.invariant

use Rattle.std.proofs.Common.{◌≡◌, ◌+◌, [], ◌∷◌, ◌++◌, ◌∙◌, ap, length, arith}
use Rattle.std.specs.Map.Iter.{deref}
use Rattle.std.proofs.lemmas.Map.Iter.{rest_more}
use Rattle.std.specs.BTreeMap.{values}
use Rattle.tws_best.specs.Best.{body_text}
use Rattle.tws_best.proofs.Starts.{all_noted, start_noted, len_noted}
use Rattle.tws_best.proofs.snapshot.Snapshot.of.Goals as goal

pub loop-body-preserved : goal.loop-body-preserved
loop-body-preserved g c =
    let before = c.loop-body in
    let body = c.in-Some.body.now in
    let given = c.in_ok-clone.field-0 in
    let more = c.push-in-loop-body.new.self.items in
    let left = rest_more deref before.body-iterator c.next.new.self c.next.result c.in-Some.body c.in-Some.is c.next.ensures.steps in
    let pushed = c.in_ok-push-2.ensures.items ∙ ap (λ b. before.bodies.items ++ b ∷ []) c.in_ok-clone.ensures.cases in
    let size : 4 + c.from.result ≡ length (body_text body) = omega (arith, c.from.ensures, c.size.ensures) in
    record {
      all = all_noted before.bodies.items more before.body-iterator c.next.new.self
          (values c.args.best.now) given body c.in_ok-push-2.ensures.items c.in_ok-clone.ensures.cases left before.invariant.all;
      starts = start_noted before.bodies.items more before.starts.items c.push.new.self.items before.len body pushed before.invariant.starts before.invariant.len c.in_ok-push.ensures.items;
      len = len_noted before.bodies.items more before.len (4 + c.from.result) body pushed before.invariant.len size;
    }

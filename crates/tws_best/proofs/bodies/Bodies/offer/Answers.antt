use Rattle.std.proofs.Common.{◌<◌, ◌^◌, List, length, arith, sym, subst}
use Rattle.std.specs.List.{All}
use Rattle.std.specs.Map.{values_of}
use Rattle.std.proofs.lemmas.Map.Views.{All-values-insert_entry}
use Rattle.byte_output.proofs.Lists.{at_some}
use Rattle.tws_best.specs.Best.{key_cmp, keyed_body}
use Rattle.tws_best.specs.Bodies.{BodyPair}
use Rattle.tws_best.proofs.Lengths.{inserted, all_small}
use Rattle.tws_best.proofs.bodies.Bodies.offer.Goals as goal

pub overflow_add-self : goal.overflow_add-self
overflow_add-self g c =
    omega (arith, all_small c.self.inside.map.entries c.self.invariant.sized (omega (arith, c.len-count.ensures.small, c.len-count.ensures.len)), c.self.invariant.len, c.from-more.ensures, c.body_len.type_inv)

pub overflow_sub-self : goal.overflow_sub-self
overflow_sub-self g c =
    let body = (keyed_body c.args.solution.now).body in
    omega (
      arith,
      inserted c.self.inside.map.entries c.offer.new.map.entries c.args.key body c.in-Ok-Some.old c.len-count.ensures.ordered (at_some _ _ _ c.in-Ok-Some.field-0-is c.in-Ok-Some.ensures.enters) (at_some _ _ _ c.in-Ok-Some.field-0-is c.in-Ok-Some.ensures.had),
      c.self.invariant.len,
      c.from-more.ensures,
      c.body_len.ensures,
      c.len_of.ensures,
    )

pub invariant_of-self : goal.invariant_of-self
invariant_of-self g c =
    let body = (keyed_body c.args.solution.now).body in record {
      len = omega (
        arith,
        inserted c.self.inside.map.entries c.offer.new.map.entries c.args.key body c.in-Ok-Some.old c.len-count.ensures.ordered (at_some _ _ _ c.in-Ok-Some.field-0-is c.in-Ok-Some.ensures.enters) (at_some _ _ _ c.in-Ok-Some.field-0-is c.in-Ok-Some.ensures.had),
        c.self.invariant.len,
        c.from-more.ensures,
        c.body_len.ensures,
        c.len_of.ensures,
      );
      sized = subst (λ (ps : List BodyPair). All (λ b. length b < 2 ^ 32) (values_of ps)) (sym (at_some _ _ _ c.in-Ok-Some.field-0-is c.in-Ok-Some.ensures.enters))
          (All-values-insert_entry key_cmp c.args.key body (λ b. length b < 2 ^ 32) c.self.inside.map.entries c.self.invariant.sized (omega (arith, c.body_len.ensures, c.body_len.type_inv)));
    }

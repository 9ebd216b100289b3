use Rattle.std.proofs.Common.{◌<◌, ◌^◌, List, length, arith, sym, subst}
use Rattle.std.specs.List.{All}
use Rattle.std.specs.Map.{values_of}
use Rattle.std.proofs.lemmas.Map.Views.{All-values-insert_entry}
use Rattle.tws_best.specs.Best.{key_cmp}
use Rattle.tws_best.specs.Bodies.{BodyPair}
use Rattle.tws_best.proofs.Lengths.{inserted, all_small}
use Rattle.tws_best.proofs.bodies.Bodies.insert.Goals as goal

pub overflow_add-self : goal.overflow_add-self
overflow_add-self g c =
    omega (arith, all_small c.self.inside.map.entries c.self.invariant.sized (omega (arith, c.len-count.ensures.small, c.len-count.ensures.len)), c.self.invariant.len, c.record_len-more.ensures.is, c.record_len-more.ensures.size)

pub overflow_sub-self : goal.overflow_sub-self
overflow_sub-self g c =
    omega (
      arith,
      inserted c.self.inside.map.entries c.insert.new.self.entries c.args.key c.args.body c.in-Ok.old c.insert.ensures.was_ordered c.in-Ok.ensures.entries c.in-Ok.ensures.old,
      c.self.invariant.len,
      c.record_len-more.ensures.is,
      c.len_of.ensures,
    )

pub invariant_of-self : goal.invariant_of-self
invariant_of-self g c = record {
  len = omega (
    arith,
    inserted c.self.inside.map.entries c.insert.new.self.entries c.args.key c.args.body c.in-Ok.old c.insert.ensures.was_ordered c.in-Ok.ensures.entries c.in-Ok.ensures.old,
    c.self.invariant.len,
    c.record_len-more.ensures.is,
    c.len_of.ensures,
  );
  sized = subst (λ (ps : List BodyPair). All (λ b. length b < 2 ^ 32) (values_of ps)) (sym c.in-Ok.ensures.entries)
      (All-values-insert_entry key_cmp c.args.key c.args.body (λ b. length b < 2 ^ 32) c.self.inside.map.entries c.self.invariant.sized c.record_len-more.ensures.size);
}

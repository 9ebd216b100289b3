use Rattle.std.proofs.Common.{◌<◌, ◌^◌, List, length, arith, sym, subst}
use Rattle.std.specs.List.{All}
use Rattle.std.specs.Map.{values_of}
use Rattle.std.specs.BTreeMap.{is_at}
use Rattle.std.proofs.lemmas.Map.Views.{All-map-remove_entry}
use Rattle.tws_best.specs.Best.{key_cmp}
use Rattle.tws_best.specs.Bodies.{BodyPair}
use Rattle.tws_best.proofs.Lengths.{removed}
use Rattle.tws_best.proofs.bodies.Bodies.remove.Goals as goal

pub overflow_sub-self : goal.overflow_sub-self
overflow_sub-self g c =
    omega (
      arith,
      removed c.self.inside.map.entries c.remove-old.new.self.entries c.args.key c.remove-old.result c.remove-old.ensures.entries c.remove-old.ensures.value,
      c.self.invariant.len,
      c.len_of.ensures,
    )

pub invariant_of-self : goal.invariant_of-self
invariant_of-self g c = record {
  len = omega (
    arith,
    removed c.self.inside.map.entries c.remove-old.new.self.entries c.args.key c.remove-old.result c.remove-old.ensures.entries c.remove-old.ensures.value,
    c.self.invariant.len,
    c.len_of.ensures,
  );
  sized = subst (λ (ps : List BodyPair). All (λ b. length b < 2 ^ 32) (values_of ps)) (sym c.remove-old.ensures.entries)
      (All-map-remove_entry (is_at (key_cmp c.args.key)) (λ (p : BodyPair). p.1) (λ b. length b < 2 ^ 32) c.self.inside.map.entries c.self.invariant.sized);
}

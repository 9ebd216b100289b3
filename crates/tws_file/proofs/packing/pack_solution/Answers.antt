use Rattle.std.proofs.Common.{List, ℕ, ◌∙◌, ap, sym, subst, rules}
use Rattle.tws_moves.specs.Shortest.{packed_bytes}
use Rattle.tws_file.specs.Text.{Solution, IsSolution}
use Rattle.tws_file.specs.Solution.{solution_of}
use Rattle.tws_file.proofs.Packs.{packed_solution_fits}
use Rattle.tws_file.proofs.packing.pack_solution.Goals as goal

pub invariant_of-result : goal.invariant_of-result
invariant_of-result g c =
    let s = solution_of c.s.inside in
    let with_moves : List ℕ → Solution = λ moves. record { key = s.key; flags = s.flags; start = s.start; seed = s.seed; ticks = s.ticks; moves = moves } in
    let packed-is = c.in_ok-moves.ensures ∙ ap packed_bytes c.as_slice.ensures.list in
    subst (λ (moves : List ℕ). IsSolution (with_moves moves)) (sym packed-is) (packed_solution_fits s c.s.invariant)

pub returns : goal.returns
returns g c = search rules

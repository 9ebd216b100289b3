use Rattle.std.proofs.Common.{List, map, subst}
use Rattle.std.specs.List.Sorted.{IsPermutation}
use Rattle.std.proofs.lemmas.List.Sorted.{IsPermutation-map}
use Rattle.tws_best.specs.Best.{KeyedBody, keyed_body}
use Rattle.tws_best.proofs.changes.sorted_solutions.Goals as goal

pub returns : goal.returns
returns g c =
    let all = c.in_ok-all.all.items in
    let sorted = c.sort_unstable_by_key.new.self.items in
    subst (λ (es : List KeyedBody). IsPermutation es (map (λ s. keyed_body s.1.now) sorted)) c.in_ok-all.ensures
    (IsPermutation-map (λ s. keyed_body s.1.now) all sorted c.sort_unstable_by_key.ensures.permutation)

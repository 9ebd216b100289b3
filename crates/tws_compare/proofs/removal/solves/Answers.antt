use Rattle.std.proofs.Common.{ap, ◌∙◌}
use Rattle.std.specs.Ordering.{is_eq}
use Rattle.tws_best.specs.Best.{key_cmp}
use Rattle.tws_file.specs.Text.{Solution}
use Rattle.tws_compare.proofs.KeyTests.{same_key_ties}
use Rattle.tws_compare.proofs.removal.solves.Goals as goal

pub returns-in-Solution : goal.returns-in-Solution
returns-in-Solution g c =
    let key = ap (λ (s : Solution). s.key) c.solution.view_is in
    rw c.in-Solution.is (c.eq.ensures ∙ same_key_ties c.solution.inside.key c.args.key ∙ ap (λ k. is_eq (key_cmp k c.args.key)) key)

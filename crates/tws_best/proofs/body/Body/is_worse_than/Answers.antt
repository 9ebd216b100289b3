use Rattle.std.proofs.Common.{◌≡◌, length, ap, sym, subst, ◌∙◌}
use Rattle.std.specs.Ordering.{nat_cmp}
use Rattle.std.specs.Cmp.Lexicographic.{slice_cmp}
use Rattle.tws_file.specs.Text.{solution, body_of, IsSolution}
use Rattle.tws_best.specs.Rank.{Ranking, ticks_of}
use Rattle.tws_best.proofs.Ticks.{below_by_bytes, below_by_size}
use Rattle.tws_best.proofs.body.Body.is_worse_than.Goals as goal

pub returns-then-is_eq : goal.returns-then-is_eq
returns-then-is_eq g c =
    let s = c.args.solution.now in
    let old = c.args.self.now in
    let ticks : c.ticks-ticks.result ≡ ticks_of old = c.ticks-ticks.ensures ∙ (ap (λ (r : Ranking). r.ticks) c.of.ensures ∙ ap ticks_of c.as_slice.ensures.bytes) in
    let by_ticks = c.cmp.ensures ∙ (ap (λ n. nat_cmp n c.ticks-ticks.result) (ap (λ v. v.ticks) c.solution.view_is) ∙ ap (nat_cmp s.ticks) ticks) in
    let by_size = c.cmp-2.ensures ∙ (ap (λ n. nat_cmp n c.size.result) c.body_len.ensures ∙ ap (nat_cmp (length (body_of (solution s)))) c.size.ensures) in
    let by_bytes = c.cmp_body.ensures ∙ ap (slice_cmp nat_cmp (body_of (solution s))) c.as_slice-then-is_eq.ensures.bytes in
    below_by_bytes s old c.cmp.result c.cmp-2.result c.then-order.result (subst IsSolution c.solution.view_is c.solution.invariant) by_ticks by_size c.then-order.ensures
    c.is_lt.result c.cmp_body.result (sym c.is_eq.ensures ∙ c.if-is_eq.true) by_bytes c.is_lt.ensures

pub returns-else-is_eq : goal.returns-else-is_eq
returns-else-is_eq g c =
    let s = c.args.solution.now in
    let old = c.args.self.now in
    let ticks : c.ticks-ticks.result ≡ ticks_of old = c.ticks-ticks.ensures ∙ (ap (λ (r : Ranking). r.ticks) c.of.ensures ∙ ap ticks_of c.as_slice.ensures.bytes) in
    let by_ticks = c.cmp.ensures ∙ (ap (λ n. nat_cmp n c.ticks-ticks.result) (ap (λ v. v.ticks) c.solution.view_is) ∙ ap (nat_cmp s.ticks) ticks) in
    let by_size = c.cmp-2.ensures ∙ (ap (λ n. nat_cmp n c.size.result) c.body_len.ensures ∙ ap (nat_cmp (length (body_of (solution s)))) c.size.ensures) in
    below_by_size s old c.cmp.result c.cmp-2.result c.then-order.result (subst IsSolution c.solution.view_is c.solution.invariant) by_ticks by_size c.then-order.ensures
    c.is_lt-else-is_eq.result (sym c.is_eq.ensures ∙ c.if-is_eq.false) c.is_lt-else-is_eq.ensures

-- Exactly the solutions of a level are dropped, and the collection loses that level alone.
use Rattle.std.proofs.Common.{◌≡◌, ◌≢◌, Bool, true, false, not, cond, ◌↔◌, List, [], ◌∷◌, refl, ap, sym, ◌∙◌, subst, inl, inr}
use Rattle.std.specs.Ordering.{is_eq}
use Rattle.std.specs.List.{Contains, filter}
use Rattle.tws_file.specs.declared.key.Key.{Key}
use Rattle.tws_file.specs.Text.{Record, pad, set, bare, solution}
use Rattle.tws_best.specs.Best.{KeyedBody, key_cmp, solved_in}
use Rattle.tws_best.specs.Choice.{best_of}
use Rattle.tws_best.proofs.Orders.{key_itself}
use Rattle.tws_compare.specs.Without.{solves, records_without}
use Rattle.tws_compare.specs.Dropped.{IsSolutionOf, IsSubsequence}
use Rattle.tws_compare.proofs.KeyTests.{equal_keys}
use Rattle.tws_compare.proofs.Filters.{kept, from_kept}
use Rattle.tws_compare.proofs.Choosing.{best_of-kept, solved_in-kept}

not_true : (b : Bool) → not b ≡ true → b ≡ false
not_true true is = absurd cc
not_true false is = refl

from_not : (b : Bool) → (b ≡ true → ⊥) → not b ≡ true
from_not true never = absurd (never refl)
from_not false never = refl

same_passes : (j k : Key) → j ≡ k → is_eq (key_cmp j k) ≡ true
same_passes j k same = ap (λ i. is_eq (key_cmp i k)) same ∙ ap is_eq (key_itself k)

-- a solution of the level passes the test
solution_passes : (key : Key) (r : Record) → IsSolutionOf key r → solves key r ≡ true
solution_passes key pad of = absurd of
solution_passes key (set rest) of = absurd of
solution_passes key (bare other) of = absurd of
solution_passes key (solution s) of = same_passes s.key key of

-- and nothing else does
passes_solution : (key : Key) (r : Record) → solves key r ≡ true → IsSolutionOf key r
passes_solution key pad passed = cc
passes_solution key (set rest) passed = cc
passes_solution key (bare other) passed = cc
passes_solution key (solution s) passed = equal_keys s.key key passed

false_not_true : (b : Bool) → b ≡ false → b ≡ true → ⊥
false_not_true b never passed = cc

-- what is left are the records that are no solutions of the level
pub left : (key : Key) (rs : List Record) (r : Record) → Contains (records_without key rs) r ↔ (Contains rs r × (IsSolutionOf key r → ⊥))
left key rs r = (
  (λ has.
      let there = from_kept (λ q. not (solves key q)) rs r has in
      (there.0, λ of. false_not_true (solves key r) (not_true (solves key r) there.1) (solution_passes key r of))),
  (λ both. kept (λ q. not (solves key q)) rs r both.0 (from_not (solves key r) (λ passed. both.1 (passes_solution key r passed)))),
)

subsequence_at : {X : Type 0} (x : X) (rest xs : List X) (b : Bool) → IsSubsequence rest xs → IsSubsequence (cond b (x ∷ rest) rest) (x ∷ xs)
subsequence_at x rest xs true of = inr (rest, refl, of)
subsequence_at x rest xs false of = inl of

-- in their order
pub in_order : {X : Type 0} (p : X → Bool) (xs : List X) → IsSubsequence (filter p xs) xs
in_order p [] = refl
in_order p (x ∷ xs) = subsequence_at x (filter p xs) xs (p x) (in_order p xs)

-- the best of what is left
best_left : (key : Key) (rs : List Record) → best_of (solved_in (records_without key rs)) ≡
    filter (λ e. not (is_eq (key_cmp e.key key))) (best_of (solved_in rs))
best_left key rs =
    ap best_of (solved_in-kept (λ k. not (is_eq (key_cmp k key))) (λ r. not (solves key r)) (λ s. refl) rs) ∙
    best_of-kept (λ k. not (is_eq (key_cmp k key))) (solved_in rs)

-- are the best of the other levels
pub others_stay : (key : Key) (rs : List Record) (e : KeyedBody) → Contains (best_of (solved_in (records_without key rs))) e ↔
    (Contains (best_of (solved_in rs)) e × (e.key ≢ key))
others_stay key rs e =
    let test : KeyedBody → Bool = λ (d : KeyedBody). not (is_eq (key_cmp d.key key)) in
    let all = best_of (solved_in rs) in (
      (λ has.
          let there = from_kept test all e (subst (λ (es : List KeyedBody). Contains es e) (best_left key rs) has) in
          (there.0, λ same. false_not_true (is_eq (key_cmp e.key key)) (not_true (is_eq (key_cmp e.key key)) there.1) (same_passes e.key key same))),
      (λ both.
          subst (λ (es : List KeyedBody). Contains es e) (sym (best_left key rs))
          (kept test all e both.0 (from_not (is_eq (key_cmp e.key key)) (λ passed. both.1 (equal_keys e.key key passed))))),
    )

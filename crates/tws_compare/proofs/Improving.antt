-- What of mine is better is enough: merged into theirs it leaves what all of mine would leave, and all of it stays.
use Rattle.std.proofs.Common.{◌≡◌, ◌↔◌, ℕ, true, false, List, [], ◌∷◌, ◌++◌, Option, Some, None, refl, ap, sym, ◌∙◌, subst, inl, inr}
use Rattle.std.specs.declared.cmp.Ordering.{Ordering}
use Rattle.std.specs.declared.cmp.Ordering.TheVariants as order
use Rattle.std.specs.Ordering.{is_eq}
use Rattle.std.specs.List.{Contains}
use Rattle.std.specs.Cmp.{tied_itself}
use Rattle.std.proofs.lemmas.List.Elements.{Contains-append_left, Contains-append_right, Contains-append_cases}
use Rattle.tws_file.specs.declared.key.Key.{Key}
use Rattle.tws_file.specs.Text.{File}
use Rattle.tws_best.specs.Rank.{rank_of, rank_cmp, ticks_of, IsBelow}
use Rattle.tws_best.specs.RankOrder.{rank_total}
use Rattle.tws_best.specs.Best.{KeyedBody, IsBestOf, IsRising, HasBody, key_cmp, solved_in}
use Rattle.tws_best.specs.Choice.{best_of}
use Rattle.tws_best.specs.Steps.{IsHeld}
use Rattle.tws_best.proofs.Members.{Contains-here, Contains-there}
use Rattle.tws_best.proofs.Orders.{rank_itself, rank_tie, no_better}
use Rattle.tws_best.proofs.Rising.{one_entry}
use Rattle.tws_best.proofs.Bests.{widen, one_map, held_itself, held_by_best, best_present}
use Rattle.tws_best.proofs.Choices.{best_of_is}
use Rattle.tws_best.proofs.Found.{entry}
use Rattle.tws_compare.specs.declared.standing.Standing.TheVariants.{Equal}
use Rattle.tws_compare.specs.Standing.{TwoSides, body_at, standing_by, standing_of, standing_at, is_improvement}
use Rattle.tws_compare.specs.Compare.{best_in, sides_of, better_entries}
use Rattle.tws_compare.proofs.KeyTests.{equal_keys}
use Rattle.tws_compare.proofs.Filters.{kept, from_kept}
use Rattle.tws_compare.proofs.Lookups.{body_found}

-- ---- what a look-up finds is there

there_at : (e : KeyedBody) (es : List KeyedBody) (key : Key) (body : List ℕ) → is_eq (key_cmp e.key key) ≡ true → e.body ≡ body → HasBody (e ∷ es) key body
there_at e es key body same is =
    let make : Key → List ℕ → KeyedBody = λ k b. record { key = k; body = b } in
    let key-is : e.key ≡ key = equal_keys e.key key same in
    let whole : make e.key e.body ≡ make key body = cc in
    subst (Contains (e ∷ es)) whole (Contains-here e es)

some_is : (a b : List ℕ) → Some a ≡ Some b → a ≡ b
some_is a b is = cc

body_there : (es : List KeyedBody) (key : Key) (body : List ℕ) → body_at es key ≡ Some body → HasBody es key body
body_there [] key body is = absurd cc
body_there (e ∷ es) key body is =
    let rest = body_there es key body in
    (elim (is_eq (key_cmp e.key key)) as (λ b. is_eq (key_cmp e.key key) ≡ b → is_eq (key_cmp e.key key) ≡ b → HasBody (e ∷ es) key body) [
      | true ↦ λ same again. there_at e es key body same (some_is e.body body (rw same at is))
      | false ↦ λ apart again. Contains-there e es (entry key body) (rest (rw apart at is))
    ]) refl refl

-- ---- the two ways a body of mine can stand

-- their body is no worse
no_better_by : (o : Ordering) (m t : List ℕ) → rank_cmp (rank_of m) (rank_of t) ≡ o → is_improvement (standing_by o (ticks_of m) (ticks_of t)) ≡ false →
    IsBelow (rank_of m) (rank_of t) → ⊥
no_better_by order.Less m t is never below = cc
no_better_by order.Equal m t is never below = cc
no_better_by order.Greater m t is never below = cc

no_improvement : (m : List ℕ) (o : Option (List ℕ)) → is_improvement (standing_of (Some m) o) ≡ false → (t : List ℕ) × (o ≡ Some t) ×
    (IsBelow (rank_of m) (rank_of t) → ⊥)
no_improvement m None never = absurd cc
no_improvement m (Some t) never = (t, refl, no_better_by (rank_cmp (rank_of m) (rank_of t)) m t refl never)

-- their body is worse
better_by : (o : Ordering) (m t : List ℕ) → rank_cmp (rank_of m) (rank_of t) ≡ o → is_improvement (standing_by o (ticks_of m) (ticks_of t)) ≡ true →
    IsBelow (rank_of m) (rank_of t)
better_by order.Less m t is better = is
better_by order.Equal m t is better = absurd cc
better_by order.Greater m t is better = absurd cc

improvement : (m t : List ℕ) → is_improvement (standing_of (Some m) (Some t)) ≡ true → IsBelow (rank_of m) (rank_of t)
improvement m t better = better_by (rank_cmp (rank_of m) (rank_of t)) m t refl better

-- ---- merged into theirs

module _ (sides : TwoSides) (xs : List KeyedBody) (of_mine : IsBestOf (Contains xs) sides.mine) (theirs_rise : IsRising sides.theirs) where
  -- at the key of one of mine
  mine_is : (m : KeyedBody) → Contains sides.mine m → body_at sides.mine m.key ≡ Some m.body
  mine_is m has = body_found sides.mine m.key m.body of_mine.rising has

  held_either : (m : KeyedBody) → Contains sides.mine m → IsHeld (Contains (sides.theirs ++ better_entries sides)) m
  held_either m has =
      (elim (is_improvement (standing_at sides m.key)) as
      (λ b. is_improvement (standing_at sides m.key) ≡ b → IsHeld (Contains (sides.theirs ++ better_entries sides)) m) [
        | true ↦ λ better. held_itself (Contains (sides.theirs ++ better_entries sides)) m
            (Contains-append_right sides.theirs (better_entries sides) m (kept (λ e. is_improvement (standing_at sides e.key)) sides.mine m has better))
        | false ↦ λ never.
            let found = no_improvement m.body (body_at sides.theirs m.key)
            (ap (λ o. is_improvement (standing_of o (body_at sides.theirs m.key))) (sym (mine_is m has)) ∙ never) in
            record {
              holder = entry m.key found.0;
              member = Contains-append_left sides.theirs (better_entries sides) (entry m.key found.0) (body_there sides.theirs m.key found.0 found.1);
              same = refl;
              no_worse = found.2;
            }
      ]) refl

  -- a solution of mine is held by what is better of mine, or by theirs
  held_solution : (f : KeyedBody) → Contains xs f → IsHeld (Contains (sides.theirs ++ better_entries sides)) f
  held_solution f has =
      let m = held_by_best (Contains xs) sides.mine of_mine f has in
      let h = held_either m.holder m.member in
      record {
        holder = h.holder;
        member = h.member;
        same = h.same ∙ m.same;
        no_worse = no_better (rank_of h.holder.body) (rank_of m.holder.body) (rank_of f.body) h.no_worse m.no_worse;
      }

  all_from_better : (es : List KeyedBody) → IsBestOf (Contains (sides.theirs ++ better_entries sides)) es → IsBestOf (Contains (sides.theirs ++ xs)) es
  all_from_better es best =
      widen (Contains (sides.theirs ++ better_entries sides)) (Contains (sides.theirs ++ xs)) es best
      (λ e has. elim (Contains-append_cases sides.theirs (better_entries sides) e has) [
        | inl first ↦ Contains-append_left sides.theirs xs e first
        | inr second ↦ Contains-append_right sides.theirs xs e
            (of_mine.best e (from_kept (λ d. is_improvement (standing_at sides d.key)) sides.mine e second).0).member
      ])
      (λ f has. elim (Contains-append_cases sides.theirs xs f has) [
        | inl first ↦ held_itself (Contains (sides.theirs ++ better_entries sides)) f (Contains-append_left sides.theirs (better_entries sides) f first)
        | inr second ↦ held_solution f second
      ])

  -- the same is best
  pub enough : (es : List KeyedBody) → IsBestOf (Contains (sides.theirs ++ xs)) es ↔ IsBestOf (Contains (sides.theirs ++ better_entries sides)) es
  enough es = (
    (λ best.
        let few = best_of_is (sides.theirs ++ better_entries sides) in
        let same = one_map (Contains (sides.theirs ++ xs)) (best_of (sides.theirs ++ better_entries sides)) es
        (all_from_better (best_of (sides.theirs ++ better_entries sides)) few) best in
        subst (IsBestOf (Contains (sides.theirs ++ better_entries sides))) same few),
    all_from_better es,
  )

  below_back : (m f : KeyedBody) → IsBelow (rank_of m.body) (rank_of f.body) → IsBelow (rank_of f.body) (rank_of m.body) → ⊥
  below_back m f down up = rank_itself (rank_of m.body) (rank_total.trans (rank_of m.body) (rank_of f.body) (rank_of m.body) down up)

  -- each that is better stays
  pub stays : (es : List KeyedBody) (m : KeyedBody) → IsBestOf (Contains (sides.theirs ++ better_entries sides)) es →
      Contains (better_entries sides) m → Contains es m
  stays es m best has =
      let test : KeyedBody → _ = λ (d : KeyedBody). is_improvement (standing_at sides d.key) in
      let there = from_kept test sides.mine m has in
      best_present (Contains (sides.theirs ++ better_entries sides)) es m best (record {
        member = Contains-append_right sides.theirs (better_entries sides) m has;
        least = λ f also same below. elim (Contains-append_cases sides.theirs (better_entries sides) f also) [
          | inl first ↦
              let t-is : body_at sides.theirs m.key ≡ Some f.body = ap (body_at sides.theirs) (sym same) ∙
              body_found sides.theirs f.key f.body theirs_rise first in
              let up = improvement m.body f.body
              (ap (λ o. is_improvement (standing_of (Some m.body) o)) (sym t-is) ∙
              (ap (λ o. is_improvement (standing_of o (body_at sides.theirs m.key))) (sym (mine_is m there.0)) ∙ there.1)) in
              below_back m f up below
          | inr second ↦
              let one = one_entry sides.mine f m of_mine.rising (from_kept test sides.mine f second).0 there.0 same in
              rank_itself (rank_of m.body) (subst (λ (d : KeyedBody). IsBelow (rank_of d.body) (rank_of m.body)) one below)
        ];
      })

-- ---- equal bodies

equal_by : (o : Ordering) (a b : List ℕ) → rank_cmp (rank_of a) (rank_of b) ≡ o → standing_by o (ticks_of a) (ticks_of b) ≡ Equal → a ≡ b
equal_by order.Less a b is same = absurd cc
equal_by order.Equal a b is same = rank_tie a b is
equal_by order.Greater a b is same = absurd cc

pub equal_bodies : (a b : List ℕ) → (standing_of (Some a) (Some b) ≡ Equal) ↔ (a ≡ b)
equal_bodies a b = (
  equal_by (rank_cmp (rank_of a) (rank_of b)) a b refl,
  (λ same. subst (λ (x : List ℕ). standing_of (Some a) (Some x) ≡ Equal) same
      (ap (λ o. standing_by o (ticks_of a) (ticks_of a)) (tied_itself rank_total (rank_of a)))),
)

-- ---- two files

pub file_enough : (mine theirs : File) (es : List KeyedBody) → IsBestOf (Contains (best_in theirs ++ solved_in mine.records)) es ↔
    IsBestOf (Contains (best_in theirs ++ better_entries (sides_of mine theirs))) es
file_enough mine theirs es = enough (sides_of mine theirs) (solved_in mine.records) (best_of_is (solved_in mine.records))
    (best_of_is (solved_in theirs.records)).rising es

pub file_stays : (mine theirs : File) (es : List KeyedBody) (e : KeyedBody) →
    IsBestOf (Contains (best_in theirs ++ better_entries (sides_of mine theirs))) es → Contains (better_entries (sides_of mine theirs)) e → Contains es e
file_stays mine theirs es e best has =
    stays (sides_of mine theirs) (solved_in mine.records) (best_of_is (solved_in mine.records)) (best_of_is (solved_in theirs.records)).rising es e best has

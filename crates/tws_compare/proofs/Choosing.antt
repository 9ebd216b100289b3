-- The best of the solutions of some levels are those of the best that are of these levels.
use Rattle.std.proofs.Common.{◌≡◌, Bool, true, false, cond, List, [], ◌∷◌, refl, ap, ◌∙◌}
use Rattle.std.specs.declared.cmp.Ordering.TheVariants.{Less}
use Rattle.std.specs.List.{Contains, filter}
use Rattle.tws_file.specs.declared.key.Key.{Key}
use Rattle.tws_file.specs.Text.{Record, Solution, pad, set, bare, solution}
use Rattle.tws_best.specs.Best.{KeyedBody, IsRising, IsBestOf, key_cmp, keyed_body, solved_in}
use Rattle.tws_best.specs.Choice.{best_of}
use Rattle.tws_best.proofs.Bests.{one_map}
use Rattle.tws_best.proofs.Choices.{best_of_is}
use Rattle.tws_compare.proofs.Filters.{all_kept, kept, from_kept}

module _ (test : Key → Bool) where
  -- of one of these levels
  abbrev pub passes : KeyedBody → Bool
  passes e = test e.key

  -- entries with rising keys of which only some are kept
  pub rising_kept : (es : List KeyedBody) → IsRising es → IsRising (filter passes es)
  rising_kept [] rising = tt
  rising_kept (e ∷ es) rising =
      let rest = rising_kept es rising.1 in
      elim (passes e) as (λ b. IsRising (cond b (e ∷ filter passes es) (filter passes es))) [
        | true ↦ (all_kept passes (λ f. key_cmp e.key f.key ≡ Less) es rising.0, rest)
        | false ↦ rest
      ]

  best_kept : (xs es : List KeyedBody) → IsBestOf (Contains xs) es → IsBestOf (Contains (filter passes xs)) (filter passes es)
  best_kept xs es of = record {
    rising = rising_kept es of.rising;
    best = λ e has.
        let there = from_kept passes es e has in
        record {
          member = kept passes xs e (of.best e there.0).member there.1;
          least = λ f member. (of.best e there.0).least f (from_kept passes xs f member).0;
        };
    every = λ f member.
        let there = from_kept passes xs f member in
        let of_key = of.every f there.0 in
        record { entry = of_key.entry; present = kept passes es of_key.entry of_key.present (ap test of_key.key_is ∙ there.1); key_is = of_key.key_is };
  }

  -- the best of these levels
  pub best_of-kept : (xs : List KeyedBody) → best_of (filter passes xs) ≡ filter passes (best_of xs)
  best_of-kept xs = one_map (Contains (filter passes xs)) (best_of (filter passes xs)) (filter passes (best_of xs)) (best_of_is (filter passes xs))
      (best_kept xs (best_of xs) (best_of_is xs))

  -- records of which the solutions of these levels are kept
  module _ (keeps : Record → Bool) (by_level : (s : Solution) → keeps (solution s) ≡ test s.key) where
    same_kept : (r : Record) (rs : List Record) (b : Bool) → solved_in (r ∷ []) ≡ [] → solved_in (cond b (r ∷ filter keeps rs) (filter keeps rs)) ≡
        solved_in (filter keeps rs)
    same_kept pad rs true none = refl
    same_kept (set rest) rs true none = refl
    same_kept (bare key) rs true none = refl
    same_kept (solution s) rs true none = absurd cc
    same_kept r rs false none = refl

    solution_kept : (s : Solution) (rs : List Record) (b : Bool) → solved_in (filter keeps rs) ≡ filter passes (solved_in rs) →
        solved_in (cond b (solution s ∷ filter keeps rs) (filter keeps rs)) ≡
        cond b (keyed_body s ∷ filter passes (solved_in rs)) (filter passes (solved_in rs))
    solution_kept s rs true rest = ap (λ es. keyed_body s ∷ es) rest
    solution_kept s rs false rest = rest

    -- their solutions are those of these levels
    pub solved_in-kept : (rs : List Record) → solved_in (filter keeps rs) ≡ filter passes (solved_in rs)
    solved_in-kept [] = refl
    solved_in-kept (pad ∷ rs) = same_kept pad rs (keeps pad) refl ∙ solved_in-kept rs
    solved_in-kept (set rest ∷ rs) = same_kept (set rest) rs (keeps (set rest)) refl ∙ solved_in-kept rs
    solved_in-kept (bare key ∷ rs) = same_kept (bare key) rs (keeps (bare key)) refl ∙ solved_in-kept rs
    solved_in-kept (solution s ∷ rs) = rw (by_level s) (solution_kept s rs (test s.key) (solved_in-kept rs))

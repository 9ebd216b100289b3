-- Whatever a list of what has happened has after a run was there before it, or was added by one of its steps.
use Rattle.std.proofs.Common.{◌≡◌, ◌⊎◌, ℕ, List, [], ◌∷◌, ◌++◌, length, slice_get, Some, refl, ap, sym, subst, inl, inr}
use Rattle.archive_model.specs.World.{World, WorldStep, happens, run_from}
use Rattle.archive_model.specs.Adding.{AddsOne}
use Rattle.archive_model.proofs.Places.{either, at-push}

-- a step of the run has added this at this place, where `Fits` holds of it
pub record AddedIn {A : Type 0} (list : World → List A) (Fits : World → WorldStep → A → Type 0) (steps : List WorldStep) (w : World) (i : ℕ)
    (x : A) : Type 0 where
  pub before : List WorldStep
  pub step : WorldStep
  pub after : List WorldStep
  pub split : steps ≡ before ++ step ∷ after
  pub at : i ≡ length (list (run_from before w))
  pub adds : list (happens step (run_from before w)) ≡ list (run_from before w) ++ x ∷ []
  pub fits : Fits (run_from before w) step x

module _ {A : Type 0} (list : World → List A) (Fits : World → WorldStep → A → Type 0)
    (adds : (w : World) (s : WorldStep) → AddsOne (Fits w s) (list w) (list (happens s w))) where
  -- it was there, or is added by some step
  abbrev Had : List WorldStep → World → ℕ → A → Type 0
  Had steps w i x = (slice_get (list w) i ≡ Some x) ⊎ AddedIn list Fits steps w i x

  -- by the first step
  added_now : (s : WorldStep) (steps : List WorldStep) (w : World) (i : ℕ) (x : A) → AddsOne (Fits w s) (list w) (list (happens s w)) →
      slice_get (list (happens s w)) i ≡ Some x → Had (s ∷ steps) w i x
  added_now s steps w i x (inl same) is = inl (subst (λ (l : List A). slice_get l i ≡ Some x) same is)
  added_now s steps w i x (inr one) is =
      either (λ old. old)
      (λ last.
      record {
        before = [];
        step = s;
        after = steps;
        split = refl;
        at = last.0;
        adds = subst (λ (y : A). list (happens s w) ≡ list w ++ y ∷ []) (sym last.1) one.1;
        fits = subst (Fits w s) (sym last.1) one.2;
      })
      (at-push (list w) one.0 i x (subst (λ (l : List A). slice_get l i ≡ Some x) one.1 is))

  -- or by a later one
  added_later : (s : WorldStep) (steps : List WorldStep) (w : World) (i : ℕ) (x : A) → Had steps (happens s w) i x → Had (s ∷ steps) w i x
  added_later s steps w i x (inl old) = added_now s steps w i x (adds w s) old
  added_later s steps w i x (inr k) =
      inr
      (record {
        before = s ∷ k.before;
        step = k.step;
        after = k.after;
        split = ap (λ (l : List WorldStep). s ∷ l) k.split;
        at = k.at;
        adds = k.adds;
        fits = k.fits;
      })

  pub added-in : (steps : List WorldStep) (w : World) (i : ℕ) (x : A) → slice_get (list (run_from steps w)) i ≡ Some x → Had steps w i x
  added-in [] w i x is = inl is
  added-in (s ∷ steps) w i x is = added_later s steps w i x (added-in steps (happens s w) i x is)

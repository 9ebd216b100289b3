-- Members of lists, one element at a time.
use Rattle.std.proofs.Common.{◌≡◌, ◌⊎◌, List, [], ◌∷◌, length, refl, arith, inl, inr, ⊎_elim, subst}
use Rattle.std.specs.List.{Contains, AllByRecursion}
use Rattle.std.proofs.lemmas.List.Elements.{Contains-append_right, Contains-append_cases, Contains-push_cases}

-- lists of any type
module _ {X : Type 0} where
  pub Contains-none : (x : X) → Contains [] x → ⊥
  Contains-none x (k, lt, is) = omega arith

  pub Contains-here : (x : X) (xs : List X) → Contains (x ∷ xs) x
  Contains-here x xs = (0, omega arith, refl)

  pub Contains-there : (y : X) (xs : List X) (x : X) → Contains xs x → Contains (y ∷ xs) x
  Contains-there y xs x has = Contains-append_right (y ∷ []) xs x has

  pub Contains-cases : (y : X) (xs : List X) (x : X) → Contains (y ∷ xs) x → (y ≡ x) ⊎ Contains xs x
  Contains-cases y xs x has =
      ⊎_elim (λ first. ⊎_elim (λ none. absurd (Contains-none x none)) (λ e. inl e) (Contains-push_cases [] y x first)) (λ later. inr later) (Contains-append_cases (y ∷ []) xs x has)

  -- what holds of each element holds of a member
  pub all_at : (P : X → Type 0) (xs : List X) (x : X) → AllByRecursion P xs → Contains xs x → P x
  all_at P [] x all has = absurd (Contains-none x has)
  all_at P (y ∷ ys) x all has =
      let rest = all_at P ys x all.1 in
      elim (Contains-cases y ys x has) [ inl e ↦ subst P e all.0 | inr later ↦ rest later ]

  -- what holds of each member holds of each element
  pub all_from : (P : X → Type 0) (xs : List X) → ((x : X) → Contains xs x → P x) → AllByRecursion P xs
  all_from P [] each = tt
  all_from P (y ∷ ys) each = (each y (Contains-here y ys), all_from P ys (λ x has. each x (Contains-there y ys x has)))

  pub none_from_length : (xs : List X) → length xs ≡ 0 → xs ≡ []
  none_from_length [] e = refl
  none_from_length (x ∷ xs) e = absurd (omega arith)

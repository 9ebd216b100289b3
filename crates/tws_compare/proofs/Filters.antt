-- Lists of which only the members that pass a test are kept.
use Rattle.std.proofs.Common.{◌≡◌, Bool, true, false, cond, List, [], ◌∷◌, map, refl, ap, ◌∙◌, subst, inl, inr, ◌⊎◌}
use Rattle.std.specs.List.{Contains, AllByRecursion, filter}
use Rattle.std.proofs.lemmas.List.Elements.{All-contains, All-filter, All-contains_itself, filter_passes}
use Rattle.tws_file.specs.declared.record.Record as stored
use Rattle.tws_file.specs.Text.{Record}
use Rattle.tws_file.specs.Record.{record_of, records_of}
use Rattle.tws_best.proofs.Members.{Contains-here, Contains-there, Contains-cases}

module _ {X : Type 0} (p : X → Bool) where
  -- what holds of each member holds of each that is kept
  pub all_kept : (P : X → Type 0) (xs : List X) → AllByRecursion P xs → AllByRecursion P (filter p xs)
  all_kept P [] all = tt
  all_kept P (x ∷ xs) all =
      let rest = all_kept P xs all.1 in
      elim (p x) as (λ b. AllByRecursion P (cond b (x ∷ filter p xs) (filter p xs))) [ true ↦ (all.0, rest) | false ↦ rest ]

  kept_at : (y : X) (ys : List X) (x : X) (b : Bool) → p y ≡ b → (y ≡ x) ⊎ Contains (filter p ys) x → p x ≡ true →
      Contains (cond b (y ∷ filter p ys) (filter p ys)) x
  kept_at y ys x true is (inl e) passed = subst (Contains (y ∷ filter p ys)) e (Contains-here y (filter p ys))
  kept_at y ys x true is (inr later) passed = Contains-there y (filter p ys) x later
  kept_at y ys x false is (inl e) passed = let same = ap p e in absurd cc
  kept_at y ys x false is (inr later) passed = later

  -- a member that passes is kept
  pub kept : (xs : List X) (x : X) → Contains xs x → p x ≡ true → Contains (filter p xs) x
  kept [] x has passed = has
  kept (y ∷ ys) x has passed =
      let rest = kept ys x in
      let cases : (y ≡ x) ⊎ Contains (filter p ys) x = elim (Contains-cases y ys x has) [ inl e ↦ inl e | inr later ↦ inr (rest later passed) ] in
      kept_at y ys x (p y) refl cases passed

  -- what is kept is a member that passes
  pub from_kept : (xs : List X) (x : X) → Contains (filter p xs) x → Contains xs x × (p x ≡ true)
  from_kept xs x has = (
    All-contains (Contains xs) (filter p xs) x (All-filter p (Contains xs) xs (All-contains_itself xs)) has,
    All-contains (λ y. p y ≡ true) (filter p xs) x (filter_passes p xs) has,
  )

-- what is kept of the images are the images of what is kept
pub map-filter : {X Y : Type 0} (f : X → Y) (p : Y → Bool) (xs : List X) → map f (filter (λ x. p (f x)) xs) ≡ filter p (map f xs)
map-filter f p [] = refl
map-filter f p (x ∷ xs) =
    let rest = map-filter f p xs in
    elim (p (f x)) as (λ b. map f (cond b (x ∷ filter (λ x. p (f x)) xs) (filter (λ x. p (f x)) xs)) ≡
    cond b (f x ∷ filter p (map f xs)) (filter p (map f xs))) [
      | true ↦ ap (λ ys. f x ∷ ys) rest
      | false ↦ rest
    ]

-- what is kept of records as they are stored
pub records_kept : {A : Type 0} (p : Record → Bool) (items left : List (stored.Record A)) (was now : List Record) → left ≡ filter (λ r. p (record_of r)) items →
    records_of items ≡ was → now ≡ records_of left → now ≡ filter p was
records_kept p items left was now left-is was-is now-is = now-is ∙ ap records_of left-is ∙ map-filter record_of p items ∙ ap (filter p) was-is

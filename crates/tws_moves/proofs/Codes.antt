-- Words of which none is a prefix of another: a text of them can be cut in only one way.
use Rattle.std.proofs.Common.{◌≡◌, ◌≢◌, ℕ, ◌≤◌, List, [], ◌∷◌, ◌++◌, length, refl, ap, ◌∙◌, sym, append_assoc, arith, length-append}
use Rattle.std.specs.List.{flat_map, AllByRecursion}

module _ {X : Type 0} (IsWord : X → Type 0) (word : X → List ℕ) where
  -- no word is a prefix of another
  abbrev pub IsCode : Type 0
  IsCode = (u v : X) (x y : List ℕ) → IsWord u → IsWord v → word u ++ x ≡ word v ++ y → (u ≡ v) × (x ≡ y)

  -- no prefix of the list is a word
  abbrev pub BeginsNoWord : List ℕ → Type 0
  BeginsNoWord xs = (u : X) (more : List ℕ) → IsWord u → xs ≢ word u ++ more

  -- Words up to where no word begins: there is only one list of them, and only one rest.
  pub one_cut : IsCode → (us vs : List X) (x y : List ℕ) → AllByRecursion IsWord us → AllByRecursion IsWord vs → BeginsNoWord x →
      BeginsNoWord y → flat_map word us ++ x ≡ flat_map word vs ++ y → (us ≡ vs) × (x ≡ y)
  one_cut code [] [] x y fa fb nx ny e = (refl, e)
  one_cut code [] (v ∷ vs) x y fa fb nx ny e =
      absurd (nx v (flat_map word vs ++ y) fb.0 (e ∙ append_assoc (word v) (flat_map word vs) y))
  one_cut code (u ∷ us) [] x y fa fb nx ny e =
      absurd (ny u (flat_map word us ++ x) fa.0 (sym e ∙ append_assoc (word u) (flat_map word us) x))
  one_cut code (u ∷ us) (v ∷ vs) x y fa fb nx ny e =
      let first = code u v (flat_map word us ++ x) (flat_map word vs ++ y) fa.0 fb.0 (sym (append_assoc (word u) (flat_map word us) x) ∙ e ∙ append_assoc (word v) (flat_map word vs) y) in
      let rest = one_cut code us vs x y fa.1 fb.1 nx ny first.1 in
      let head = first.0 in
      let tail = rest.0 in
      (cc, rest.1)

  -- Words at the start of a text are no longer than the words up to where no word begins.
  pub longest_cut : IsCode → (us vs : List X) (x y : List ℕ) → AllByRecursion IsWord us → AllByRecursion IsWord vs →
      BeginsNoWord y → flat_map word us ++ x ≡ flat_map word vs ++ y → length (flat_map word us) ≤ length (flat_map word vs)
  longest_cut code [] vs x y fa fb ny e = omega arith
  longest_cut code (u ∷ us) [] x y fa fb ny e =
      absurd (ny u (flat_map word us ++ x) fa.0 (sym e ∙ append_assoc (word u) (flat_map word us) x))
  longest_cut code (u ∷ us) (v ∷ vs) x y fa fb ny e =
      let first = code u v (flat_map word us ++ x) (flat_map word vs ++ y) fa.0 fb.0 (sym (append_assoc (word u) (flat_map word us) x) ∙ e ∙ append_assoc (word v) (flat_map word vs) y) in
      let rest = longest_cut code us vs x y fa.1 fb.1 ny first.1 in
      omega (arith, rest, ap (λ (w : X). length (word w)) first.0, length-append (word u) (flat_map word us), length-append (word v) (flat_map word vs))

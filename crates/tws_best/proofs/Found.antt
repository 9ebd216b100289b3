-- What a map's lookup says about its entries.
use Rattle.std.proofs.Common.{◌≡◌, List, [], ◌∷◌, Some, None, refl, ap, sym, ◌∙◌, subst, inl, inr, ℕ}
use Rattle.std.specs.declared.cmp.Ordering.{Ordering}
use Rattle.std.specs.declared.cmp.Ordering.TheVariants.{Less, Equal, Greater}
use Rattle.std.specs.Ordering.{is_eq}
use Rattle.std.specs.List.{Contains, AllByRecursion}
use Rattle.std.specs.List.Sorted.{IsStrictlySortedBy}
use Rattle.std.specs.Map.{lookup, keys_of}
use Rattle.std.specs.BTreeMap.{is_at}
use Rattle.std.proofs.lemmas.Map.Entries.{lookup_head, lookup_tail}
use Rattle.std.proofs.lemmas.Map.Keys.{sorted_head, sorted_tail}
use Rattle.tws_file.specs.declared.key.Key.{Key}
use Rattle.tws_best.specs.Best.{KeyedBody, IsRising, key_cmp}
use Rattle.tws_best.specs.Bodies.{BodyPair, keyed_bodies}
use Rattle.tws_best.proofs.Members.{Contains-none, Contains-here, Contains-there, Contains-cases}
use Rattle.tws_best.proofs.Orders.{key_tie, key_itself}

-- a pair of a map as an entry
abbrev pub entry : Key → List ℕ → KeyedBody
entry key body = record { key = key; body = body }

-- ---- keys in order

-- a key below all keys is below those of all entries
all_above : (k : Key) (ps : List BodyPair) → AllByRecursion (λ q. key_cmp k q ≡ Less) (keys_of ps) → AllByRecursion (λ (f : KeyedBody). key_cmp k f.key ≡ Less) (keyed_bodies ps)
all_above k [] all = tt
all_above k (p ∷ ps) all = (all.0, all_above k ps all.1)

-- the keys of a map's entries rise
pub rising_of : (ps : List BodyPair) → IsStrictlySortedBy key_cmp (keys_of ps) → IsRising (keyed_bodies ps)
rising_of [] sorted = tt
rising_of (p ∷ ps) sorted = (all_above p.0 ps (sorted_head key_cmp p.0 (keys_of ps) sorted), rising_of ps (sorted_tail key_cmp p.0 (keys_of ps) sorted))

-- ---- the lookup

found_at : (o : Ordering) (k : Key) (b : List ℕ) (p : BodyPair) (ps : List BodyPair) → o ≡ key_cmp k p.0 →
    lookup (is_at (key_cmp k)) (p ∷ ps) ≡ Some b →
    (lookup (is_at (key_cmp k)) ps ≡ Some b → Contains (keyed_bodies ps) (entry k b)) →
    Contains (keyed_bodies (p ∷ ps)) (entry k b)
found_at Less k b p ps is some rest =
    Contains-there (entry p.0 p.1) (keyed_bodies ps) (entry k b) (rest (sym (lookup_tail (is_at (key_cmp k)) p ps (ap is_eq (sym is))) ∙ some))
found_at Equal k b p ps is some rest =
    let here : Some p.1 ≡ Some b = sym (lookup_head (is_at (key_cmp k)) p ps (ap is_eq (sym is))) ∙ some in
    let body : p.1 ≡ b = cc in
    let same : entry p.0 p.1 ≡ entry k b = ap (λ j. entry j p.1) (sym (key_tie k p.0 (sym is))) ∙ ap (entry k) body in
    subst (Contains (keyed_bodies (p ∷ ps))) same (Contains-here (entry p.0 p.1) (keyed_bodies ps))
found_at Greater k b p ps is some rest =
    Contains-there (entry p.0 p.1) (keyed_bodies ps) (entry k b) (rest (sym (lookup_tail (is_at (key_cmp k)) p ps (ap is_eq (sym is))) ∙ some))

-- what is found is an entry
pub found : (k : Key) (b : List ℕ) (ps : List BodyPair) → lookup (is_at (key_cmp k)) ps ≡ Some b → Contains (keyed_bodies ps) (entry k b)
found k b [] some = absurd cc
found k b (p ∷ ps) some = found_at (key_cmp k p.0) k b p ps refl some (found k b ps)

apart_at : (o : Ordering) (k : Key) (p : BodyPair) (ps : List BodyPair) → o ≡ key_cmp k p.0 → lookup (is_at (key_cmp k)) (p ∷ ps) ≡ None → (p.0 ≡ k → ⊥) × (lookup (is_at (key_cmp k)) ps ≡ None)
apart_at Less k p ps is none = (
  (λ same. let self : key_cmp k p.0 ≡ Equal = ap (key_cmp k) same ∙ key_itself k in cc),
  sym (lookup_tail (is_at (key_cmp k)) p ps (ap is_eq (sym is))) ∙ none,
)
apart_at Equal k p ps is none = let head = lookup_head (is_at (key_cmp k)) p ps (ap is_eq (sym is)) in absurd cc
apart_at Greater k p ps is none = (
  (λ same. let self : key_cmp k p.0 ≡ Equal = ap (key_cmp k) same ∙ key_itself k in cc),
  sym (lookup_tail (is_at (key_cmp k)) p ps (ap is_eq (sym is))) ∙ none,
)

-- if nothing is found, no entry has the key
pub not_found : (k : Key) (ps : List BodyPair) → lookup (is_at (key_cmp k)) ps ≡ None → (e : KeyedBody) → Contains (keyed_bodies ps) e → e.key ≡ k → ⊥
not_found k [] none e has same = Contains-none e has
not_found k (p ∷ ps) none e has same =
    let parts = apart_at (key_cmp k p.0) k p ps refl none in
    let rest = not_found k ps parts.1 e in
    elim (Contains-cases (entry p.0 p.1) (keyed_bodies ps) e has) [
      | inl first ↦ parts.0 (ap (λ (f : KeyedBody). f.key) first ∙ same)
      | inr later ↦ rest later same
    ]

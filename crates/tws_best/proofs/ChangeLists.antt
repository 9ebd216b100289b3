-- Changes of a map, and how they are undone: a note of each has its key and what the key had before.
use Rattle.std.proofs.Common.{◌≡◌, Bool, true, false, cond, List, [], ◌∷◌, ◌++◌, Option, Some, None, is_some, refl, ap, sym, ◌∙◌, subst, ℕ}
use Rattle.std.specs.declared.cmp.Ordering.{Ordering}
use Rattle.std.specs.declared.cmp.Ordering.TheVariants.{Less, Equal, Greater}
use Rattle.std.specs.Ordering.{is_eq, match_ordering}
use Rattle.std.specs.List.Sorted.{IsStrictlySortedBy}
use Rattle.std.specs.Map.{lookup, remove_entry, keys_of}
use Rattle.std.specs.BTreeMap.{is_at, insert_entry}
use Rattle.std.proofs.lemmas.Map.{lookup-none}
use Rattle.std.proofs.lemmas.Map.Entries.{lookup_head, lookup_tail, none_below_head}
use Rattle.std.proofs.lemmas.Map.Keys.{sorted_tail}
use Rattle.tws_file.specs.declared.key.Key.{Key}
use Rattle.tws_best.specs.Best.{key_cmp}
use Rattle.tws_best.specs.Bodies.{BodyPair}
use Rattle.tws_best.specs.Steps.{back_to, CanGoBack, Undoes}
use Rattle.tws_best.proofs.Orders.{key_total, key_itself}

-- the test for this key
abbrev at : Key → Key → Bool
at k = is_at (key_cmp k)

remove_head : (test : Key → Bool) (p : BodyPair) (ps : List BodyPair) → test p.0 ≡ true → remove_entry test (p ∷ ps) ≡ ps
remove_head test p ps is = ap (λ b. cond b ps (p ∷ remove_entry test ps)) is

remove_tail : (test : Key → Bool) (p : BodyPair) (ps : List BodyPair) → test p.0 ≡ false → remove_entry test (p ∷ ps) ≡ p ∷ remove_entry test ps
remove_tail test p ps is = ap (λ b. cond b ps (p ∷ remove_entry test ps)) is

-- an insertion by how the keys compare
insert_by : (k : Key) (b : List ℕ) (p : BodyPair) (ps : List BodyPair) (o : Ordering) → o ≡ key_cmp k p.0 →
    insert_entry key_cmp (p ∷ ps) k b ≡ match_ordering o ((k, b) ∷ (p ∷ ps)) ((p.0, b) ∷ ps) (p ∷ insert_entry key_cmp ps k b)
insert_by k b p ps o is = ap (λ r. match_ordering r ((k, b) ∷ (p ∷ ps)) ((p.0, b) ∷ ps) (p ∷ insert_entry key_cmp ps k b)) (sym is)

-- ---- a key that is new

removed_at : (o : Ordering) (k : Key) (b : List ℕ) (p : BodyPair) (ps : List BodyPair) → o ≡ key_cmp k p.0 →
    lookup (at k) (p ∷ ps) ≡ None → (lookup (at k) ps ≡ None → remove_entry (at k) (insert_entry key_cmp ps k b) ≡ ps) →
    remove_entry (at k) (insert_entry key_cmp (p ∷ ps) k b) ≡ p ∷ ps
removed_at Less k b p ps is none rest =
    ap (remove_entry (at k)) (insert_by k b p ps Less is) ∙ remove_head (at k) (k, b) (p ∷ ps) (ap is_eq (key_itself k))
removed_at Equal k b p ps is none rest = let head = lookup_head (at k) p ps (ap is_eq (sym is)) in absurd cc
removed_at Greater k b p ps is none rest =
    let apart = ap is_eq (sym is) in
    ap (remove_entry (at k)) (insert_by k b p ps Greater is)
    ∙ remove_tail (at k) p (insert_entry key_cmp ps k b) apart
    ∙ ap (λ (qs : List BodyPair). p ∷ qs) (rest (sym (lookup_tail (at k) p ps apart) ∙ none))

-- a pair that was inserted at a key that had none is removed again
removed : (k : Key) (b : List ℕ) (ps : List BodyPair) → lookup (at k) ps ≡ None → remove_entry (at k) (insert_entry key_cmp ps k b) ≡ ps
removed k b [] none = remove_head (at k) (k, b) [] (ap is_eq (key_itself k))
removed k b (p ∷ ps) none = removed_at (key_cmp k p.0) k b p ps refl none (removed k b ps)

-- ---- a key that is present

present_at : (o : Ordering) (k : Key) (b : List ℕ) (p : BodyPair) (ps : List BodyPair) → o ≡ key_cmp k p.0 →
    lookup (at k) (insert_entry key_cmp ps k b) ≡ Some b → lookup (at k) (insert_entry key_cmp (p ∷ ps) k b) ≡ Some b
present_at Less k b p ps is rest =
    ap (lookup (at k)) (insert_by k b p ps Less is) ∙ lookup_head (at k) (k, b) (p ∷ ps) (ap is_eq (key_itself k))
present_at Equal k b p ps is rest =
    ap (lookup (at k)) (insert_by k b p ps Equal is) ∙ lookup_head (at k) (p.0, b) ps (ap is_eq (sym is))
present_at Greater k b p ps is rest =
    ap (lookup (at k)) (insert_by k b p ps Greater is) ∙ lookup_tail (at k) p (insert_entry key_cmp ps k b) (ap is_eq (sym is)) ∙ rest

-- what was inserted at a key is found there
present : (k : Key) (b : List ℕ) (ps : List BodyPair) → lookup (at k) (insert_entry key_cmp ps k b) ≡ Some b
present k b [] = lookup_head (at k) (k, b) [] (ap is_eq (key_itself k))
present k b (p ∷ ps) = present_at (key_cmp k p.0) k b p ps refl (present k b ps)

again_at : (o : Ordering) (k : Key) (b old : List ℕ) (p : BodyPair) (ps : List BodyPair) → o ≡ key_cmp k p.0 →
    IsStrictlySortedBy key_cmp (keys_of (p ∷ ps)) → lookup (at k) (p ∷ ps) ≡ Some old →
    (lookup (at k) ps ≡ Some old → insert_entry key_cmp (insert_entry key_cmp ps k b) k old ≡ ps) →
    insert_entry key_cmp (insert_entry key_cmp (p ∷ ps) k b) k old ≡ p ∷ ps
again_at Less k b old p ps is sorted some rest =
    let none = lookup-none (at k) (p ∷ ps) (none_below_head key_total k p ps sorted (sym is)) in absurd cc
again_at Equal k b old p ps is sorted some rest =
    let here : Some p.1 ≡ Some old = sym (lookup_head (at k) p ps (ap is_eq (sym is))) ∙ some in
    let body : old ≡ p.1 = cc in
    ap (λ (qs : List BodyPair). insert_entry key_cmp qs k old) (insert_by k b p ps Equal is)
    ∙ insert_by k old (p.0, b) ps Equal is
    ∙ ap (λ (v : List ℕ). (p.0, v) ∷ ps) body
again_at Greater k b old p ps is sorted some rest =
    ap (λ (qs : List BodyPair). insert_entry key_cmp qs k old) (insert_by k b p ps Greater is)
    ∙ insert_by k old p (insert_entry key_cmp ps k b) Greater is
    ∙ ap (λ (qs : List BodyPair). p ∷ qs) (rest (sym (lookup_tail (at k) p ps (ap is_eq (sym is))) ∙ some))

-- a value that was replaced is put back
again : (k : Key) (b old : List ℕ) (ps : List BodyPair) → IsStrictlySortedBy key_cmp (keys_of ps) → lookup (at k) ps ≡ Some old → insert_entry key_cmp (insert_entry key_cmp ps k b) k old ≡ ps
again k b old [] sorted some = absurd cc
again k b old (p ∷ ps) sorted some = again_at (key_cmp k p.0) k b old p ps refl sorted some (again k b old ps (sorted_tail key_cmp p.0 (keys_of ps) sorted))

-- ---- lists of changes

-- an insertion can be undone
can_go_back : (k : Key) (b : List ℕ) (old : Option (List ℕ)) (ps : List BodyPair) → IsStrictlySortedBy key_cmp (keys_of ps) →
    lookup (at k) ps ≡ old → CanGoBack k old (insert_entry key_cmp ps k b) × (back_to k old (insert_entry key_cmp ps k b) ≡ ps)
can_go_back k b None ps sorted is = (tt, removed k b ps is)
can_go_back k b (Some old) ps sorted is = (ap is_some (present k b ps), again k b old ps sorted is)

-- a change that can be undone, with its note after those of the changes before it
noted : (first : List BodyPair) (ds : List (Key × Option (List ℕ))) (was now : List BodyPair) (k : Key) (old : Option (List ℕ)) →
    Undoes first ds was → CanGoBack k old now → back_to k old now ≡ was → Undoes first (ds ++ (k, old) ∷ []) now
noted first [] was now k old u can back = (now, refl, can, back ∙ u)
noted first (d ∷ ds) was now k old u can back = (u.0, noted u.0 ds was now k old u.1 can back, u.2, u.3)

-- one more change, and its note
pub one_more : (first : List BodyPair) (ds : List (Key × Option (List ℕ))) (ps : List BodyPair) (k : Key) (b : List ℕ)
    (old : Option (List ℕ)) → IsStrictlySortedBy key_cmp (keys_of ps) → lookup (at k) ps ≡ old → Undoes first ds ps →
    Undoes first (ds ++ (k, old) ∷ []) (insert_entry key_cmp ps k b)
one_more first ds ps k b old sorted is u =
    let back = can_go_back k b old ps sorted is in
    noted first ds ps (insert_entry key_cmp ps k b) k old u back.0 back.1

-- the last change can be undone, and then the others
pub last_back : (first : List BodyPair) (ds : List (Key × Option (List ℕ))) (now : List BodyPair) (k : Key)
    (old : Option (List ℕ)) → Undoes first (ds ++ (k, old) ∷ []) now → CanGoBack k old now × Undoes first ds (back_to k old now)
last_back first [] now k old u = (subst (CanGoBack k old) (sym u.1) u.2, ap (back_to k old) u.1 ∙ u.3)
last_back first (d ∷ ds) now k old u =
    let rest = last_back u.0 ds now k old u.1 in
    (rest.0, (u.0, rest.1, u.2, u.3))

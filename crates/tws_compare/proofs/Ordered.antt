-- The keys of solutions, sorted and each once, are those of the best.
use Rattle.std.proofs.Common.{◌≡◌, ◌↔◌, List, [], ◌∷◌, ◌++◌, map, refl, ap, sym, ◌∙◌, subst, inl, inr, append_assoc, append-nil}
use Rattle.std.specs.declared.cmp.Ordering.TheVariants.{Less}
use Rattle.std.specs.Cmp.{IsEquivalence}
use Rattle.std.specs.List.{Contains, AllByRecursion, dedup}
use Rattle.std.specs.List.Retain.{IsFiltered, DiffersFromLast}
use Rattle.std.specs.List.Sorted.{IsPermutation, IsSorted, IsStrictlySortedBy}
use Rattle.std.proofs.lemmas.Cmp.{eq_by_cmp_equiv}
use Rattle.std.proofs.lemmas.List.Filters.{dedup_is}
use Rattle.std.proofs.lemmas.List.Kept.{Contains-dedup, Contains-from_dedup, IsStrictlySortedBy-dedup}
use Rattle.std.proofs.lemmas.List.Sorted.{IsPermutation-sym, Contains-permutation}
use Rattle.std.proofs.lemmas.List.{map-append}
use Rattle.std.proofs.lemmas.Map.Keys.{sorted_head, sorted_tail}
use Rattle.tws_file.specs.declared.key.Key.{Key}
use Rattle.tws_file.specs.declared.record.Record as stored
use Rattle.tws_file.specs.declared.record.Record.TheVariants.{Pad, Set, Bare, Solution as Solved}
use Rattle.tws_file.specs.Text.{Solution}
use Rattle.tws_file.specs.Record.{record_of}
use Rattle.tws_best.specs.Best.{KeyedBody, IsRising, HasKey, key_cmp, keyed_body, solved_in}
use Rattle.tws_best.specs.Choice.{best_of}
use Rattle.tws_best.proofs.Members.{Contains-none, Contains-here, Contains-there, Contains-cases}
use Rattle.tws_best.proofs.Orders.{key_total}
use Rattle.tws_best.proofs.Rising.{same_entries}
use Rattle.tws_best.proofs.Choices.{best_of_is}
use Rattle.tws_compare.specs.Compare.{all_keys, keys_of}
use Rattle.tws_compare.proofs.KeyTests.{same_key, same_key_ties, equal_keys}

-- ---- members of images

module _ {X Y : Type 0} (f : X → Y) where
  pub Contains-map : (xs : List X) (x : X) → Contains xs x → Contains (map f xs) (f x)
  Contains-map [] x has = absurd (Contains-none x has)
  Contains-map (y ∷ ys) x has =
      let rest = Contains-map ys x in
      elim (Contains-cases y ys x has) [
        | inl is ↦ subst (λ z. Contains (f y ∷ map f ys) (f z)) is (Contains-here (f y) (map f ys))
        | inr later ↦ Contains-there (f y) (map f ys) (f x) (rest later)
      ]

  pub Contains-from_map : (xs : List X) (y : Y) → Contains (map f xs) y → (x : X) × Contains xs x × (f x ≡ y)
  Contains-from_map [] y has = absurd (Contains-none y has)
  Contains-from_map (x ∷ xs) y has =
      let rest = Contains-from_map xs y in
      elim (Contains-cases (f x) (map f xs) y has) [
        | inl is ↦ (x, Contains-here x xs, is)
        | inr later ↦ let r = rest later in (r.0, Contains-there x xs r.0 r.1, r.2)
      ]

-- ---- lists of keys as entries without bodies

only_key : Key → KeyedBody
only_key key = record { key = key; body = [] }

key-only_key : (key : Key) → (only_key key).key ≡ key
unfolding only_key
key-only_key key = refl

keys_back : (ks : List Key) → all_keys (map only_key ks) ≡ ks
unfolding only_key
keys_back [] = refl
keys_back (k ∷ ks) = ap (λ js. k ∷ js) (keys_back ks)

all_above : (k : Key) (ks : List Key) → AllByRecursion (λ j. key_cmp k j ≡ Less) ks →
    AllByRecursion (λ (f : KeyedBody). key_cmp k f.key ≡ Less) (map only_key ks)
unfolding only_key
all_above k [] all = tt
all_above k (j ∷ js) all = (all.0, all_above k js all.1)

rising_from_sorted : (ks : List Key) → IsStrictlySortedBy key_cmp ks → IsRising (map only_key ks)
unfolding only_key
rising_from_sorted [] sorted = tt
rising_from_sorted (k ∷ ks) sorted = (all_above k ks (sorted_head key_cmp k ks sorted), rising_from_sorted ks (sorted_tail key_cmp k ks sorted))

all_above_keys : (k : Key) (es : List KeyedBody) → AllByRecursion (λ (f : KeyedBody). key_cmp k f.key ≡ Less) es →
    AllByRecursion (λ (f : KeyedBody). key_cmp k f.key ≡ Less) (map only_key (all_keys es))
unfolding only_key
all_above_keys k [] all = tt
all_above_keys k (e ∷ es) all = (all.0, all_above_keys k es all.1)

rising_keys : (es : List KeyedBody) → IsRising es → IsRising (map only_key (all_keys es))
unfolding only_key
rising_keys [] rising = tt
rising_keys (e ∷ es) rising = (all_above_keys e.key es rising.0, rising_keys es rising.1)

carried : (js ks : List Key) → ((k : Key) → Contains js k → Contains ks k) → (f : KeyedBody) → Contains (map only_key js) f → Contains (map only_key ks) f
carried js ks there f has =
    let from = Contains-from_map only_key js f has in
    subst (Contains (map only_key ks)) from.2 (Contains-map only_key ks from.0 (there from.0 from.1))

-- keys that rise are determined by which they are
same_keys : (ks : List Key) (es : List KeyedBody) → IsStrictlySortedBy key_cmp ks → IsRising es → ((k : Key) → Contains ks k → Contains (all_keys es) k) →
    ((k : Key) → Contains (all_keys es) k → Contains ks k) → ks ≡ all_keys es
same_keys ks es sorted rising there back =
    let same = same_entries (map only_key ks) (map only_key (all_keys es)) (rising_from_sorted ks sorted) (rising_keys es rising)
    (carried ks (all_keys es) there) (carried (all_keys es) ks back) in
    sym (keys_back ks) ∙ ap all_keys same ∙ keys_back (all_keys es)

-- ---- the keys of the best

-- the best have each key of the solutions
best_have : (es : List KeyedBody) (k : Key) → Contains (all_keys es) k → Contains (all_keys (best_of es)) k
best_have es k has =
    let from = Contains-from_map (λ (e : KeyedBody). e.key) es k has in
    let of_key = (best_of_is es).every from.0 from.1 in
    subst (Contains (all_keys (best_of es))) (of_key.key_is ∙ from.2) (Contains-map (λ (e : KeyedBody). e.key) (best_of es) of_key.entry of_key.present)

-- and no other
have_best : (es : List KeyedBody) (k : Key) → Contains (all_keys (best_of es)) k → Contains (all_keys es) k
have_best es k has =
    let from = Contains-from_map (λ (e : KeyedBody). e.key) (best_of es) k has in
    subst (Contains (all_keys es)) from.2 (Contains-map (λ (e : KeyedBody). e.key) es from.0 ((best_of_is es).best from.0 from.1).member)

same_key_equiv : IsEquivalence same_key
same_key_equiv =
    let by = eq_by_cmp_equiv key_total in
    record {
      refl = λ x. same_key_ties x x ∙ by.refl x;
      symm = λ x y. same_key_ties x y ∙ by.symm x y ∙ sym (same_key_ties y x);
      congr = λ x y z is. same_key_ties x z ∙ by.congr x y z (sym (same_key_ties x y) ∙ is) ∙ sym (same_key_ties y z);
    }

-- the keys of solutions, sorted, without those that are equal to the one before
pub keys_are : (es : List KeyedBody) (before sorted after : List Key) → before ≡ all_keys es → IsPermutation before sorted → IsSorted key_cmp sorted →
    IsFiltered (DiffersFromLast same_key) [] sorted after → after ≡ keys_of es
keys_are es before sorted after is moved in_order left =
    let after-is : after ≡ dedup same_key sorted = dedup_is same_key sorted after left in
    let strictly = IsStrictlySortedBy-dedup key_total same_key_ties sorted in_order in
    let there : (k : Key) → Contains (dedup same_key sorted) k → Contains (all_keys (best_of es)) k = λ k has.
    best_have es k (subst (λ ks. Contains ks k) is
    (Contains-permutation sorted before k (IsPermutation-sym before sorted moved) (Contains-from_dedup same_key sorted k has))) in
    let back : (k : Key) → Contains (all_keys (best_of es)) k → Contains (dedup same_key sorted) k = λ k has.
    Contains-dedup same_key_equiv (λ j l tie. equal_keys j l (sym (same_key_ties j l) ∙ tie)) sorted k
    (Contains-permutation before sorted k moved (subst (λ ks. Contains ks k) (sym is) (have_best es k has))) in
    after-is ∙ same_keys (dedup same_key sorted) (best_of es) strictly (best_of_is es).rising there back

-- ---- gathering the keys of records

no_solution : {A : Type 0} (one : stored.Record A) → ((s : Solution) → one ≡ Solved s → ⊥) → solved_in (record_of one ∷ []) ≡ []
no_solution Pad not = refl
no_solution (Set rest) not = refl
no_solution (Bare key) not = refl
no_solution (Solved s) not = absurd (not s refl)

-- one more record, if the keys before it were gathered after those at the start
module _ {A : Type 0} (start : List Key) (so_far all : List KeyedBody) (item : stored.Record A) (more : all ≡ so_far ++ solved_in (record_of item ∷ []))
    (before after : List Key) (is_so_far : before ≡ start ++ all_keys so_far) where
  -- it is a solution, whose key comes last
  pub key_pushed : (s : Solution) → item ≡ Solved s → after ≡ before ++ s.key ∷ [] → after ≡ start ++ all_keys all
  key_pushed s is after-is =
      let last : solved_in (record_of item ∷ []) ≡ keyed_body s ∷ [] = ap (λ (r : stored.Record A). solved_in (record_of r ∷ [])) is in
      let keys : all_keys all ≡ all_keys so_far ++ s.key ∷ [] = ap all_keys (more ∙ ap (λ (es : List KeyedBody). so_far ++ es) last) ∙
      map-append (λ (e : KeyedBody). e.key) so_far (keyed_body s ∷ []) in
      after-is ∙ ap (λ (ks : List Key). ks ++ s.key ∷ []) is_so_far ∙ append_assoc start (all_keys so_far) (s.key ∷ []) ∙
      ap (λ (ks : List Key). start ++ ks) (sym keys)

  -- it is no solution, and nothing is gathered
  pub no_key : ((s : Solution) → item ≡ Solved s → ⊥) → after ≡ before → after ≡ start ++ all_keys all
  no_key not after-is =
      let same : all ≡ so_far = more ∙ ap (λ (es : List KeyedBody). so_far ++ es) (no_solution item not) ∙ append-nil so_far in
      after-is ∙ is_so_far ∙ ap (λ (es : List KeyedBody). start ++ all_keys es) (sym same)

-- ---- the keys of the best rise, and are those of the solutions

above_from : (k : Key) (es : List KeyedBody) → AllByRecursion (λ (f : KeyedBody). key_cmp k f.key ≡ Less) es →
    AllByRecursion (λ j. key_cmp k j ≡ Less) (all_keys es)
above_from k [] all = tt
above_from k (e ∷ es) all = (all.0, above_from k es all.1)

sorted_from_rising : (es : List KeyedBody) → IsRising es → IsStrictlySortedBy key_cmp (all_keys es)
unfolding IsStrictlySortedBy
sorted_from_rising [] rising = tt
sorted_from_rising (e ∷ es) rising = (above_from e.key es rising.0, sorted_from_rising es rising.1)

pub keys_rise : (es : List KeyedBody) → IsStrictlySortedBy key_cmp (keys_of es)
keys_rise es = sorted_from_rising (best_of es) (best_of_is es).rising

pub every_key : (es : List KeyedBody) (k : Key) → Contains (keys_of es) k ↔ HasKey es k
every_key es k = (
  (λ has.
      let from = Contains-from_map (λ (e : KeyedBody). e.key) es k (have_best es k has) in
      record { entry = from.0; present = from.1; key_is = from.2 }),
  (λ of_key. best_have es k (subst (Contains (all_keys es)) of_key.key_is (Contains-map (λ (e : KeyedBody). e.key) es of_key.entry of_key.present))),
)

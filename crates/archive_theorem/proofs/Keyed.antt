-- Look-ups in lists of keys and values, after a value was written, inserted or removed.
use Rattle.std.proofs.Common.{◌≡◌, ◌⊎◌, Bool, true, false, cond, List, [], ◌∷◌, Option, None, Some, Ordering, Less, Equal, Greater, is_eq, refl, ap, sym, ◌∙◌, inl, inr}
use Rattle.std.specs.Map.{lookup, set_value, remove_entry}
use Rattle.std.specs.BTreeMap.{insert_entry}
use Rattle.std.specs.Ordering.{match_ordering}

-- ---- a first value, or what follows it

none_after : {X : Type 0} (here : Bool) (x y : X) (o p : Option X) → (o ≡ None → p ≡ None) → cond here (Some x) o ≡ None → cond here (Some y) p ≡ None
none_after true x y o p next e = absurd cc
none_after false x y o p next e = next e

none_rest : {X : Type 0} (here : Bool) (x : X) (o : Option X) → cond here (Some x) o ≡ None → o ≡ None
none_rest true x o e = absurd cc
none_rest false x o e = e

none_here : {X : Type 0} (here : Bool) (x : X) (o : Option X) → cond here (Some x) o ≡ None → here ≡ false
none_here true x o e = absurd cc
none_here false x o e = refl

miss : {X : Type 0} (here : Bool) (x : X) (o : Option X) → here ≡ false → o ≡ None → cond here (Some x) o ≡ None
miss true x o is e = absurd cc
miss false x o is e = e

module _ {K X : Type 0} (same : K → K → Bool) (exact : (a b : K) → same a b ≡ true → a ≡ b) where
  -- what a look-up finds is the new value, or was there
  abbrev pub NewOrOld : (es : List (K × X)) (k : K) (v : X) (q : K) (x : X) → Type 0
  NewOrOld es k v q x = ((q ≡ k) × (x ≡ v)) ⊎ (lookup (same q) es ≡ Some x)

  -- the entry that is written is the first
  new_here : (es : List (K × X)) (key : K) (old v : X) (k q : K) (x : X) → k ≡ key → (here : Bool) → same q key ≡ here →
      cond here (Some v) (lookup (same q) es) ≡ Some x → ((q ≡ k) × (x ≡ v)) ⊎ (cond here (Some old) (lookup (same q) es) ≡ Some x)
  new_here es key old v k q x at true is e = inl (exact q key is ∙ sym at, cc)
  new_here es key old v k q x at false is e = inr e

  -- or it comes later
  new_later : (es : List (K × X)) (old v : X) (k q : K) (x : X) (o : Option X) → (here : Bool) → (o ≡ Some x → NewOrOld es k v q x) →
      cond here (Some old) o ≡ Some x → ((q ≡ k) × (x ≡ v)) ⊎ (cond here (Some old) (lookup (same q) es) ≡ Some x)
  new_later es old v k q x o true later e = inr e
  new_later es old v k q x o false later e = later e

  -- ---- a value is written

  set_at : (es : List (K × X)) (key : K) (old v : X) (k q : K) (x : X) →
      (lookup (same q) (set_value (same k) es v) ≡ Some x → NewOrOld es k v q x) → (there : Bool) → same k key ≡ there →
      lookup (same q) (cond there ((key, v) ∷ es) ((key, old) ∷ set_value (same k) es v)) ≡ Some x → NewOrOld ((key, old) ∷ es) k v q x
  set_at es key old v k q x later true is e = new_here es key old v k q x (exact k key is) (same q key) refl e
  set_at es key old v k q x later false is e = new_later es old v k q x (lookup (same q) (set_value (same k) es v)) (same q key) later e

  -- after a write a look-up finds the new value at its key, and at others what was there
  pub lookup-set : (es : List (K × X)) (k : K) (v : X) (q : K) (x : X) → lookup (same q) (set_value (same k) es v) ≡ Some x → NewOrOld es k v q x
  lookup-set [] k v q x e = absurd cc
  lookup-set (entry ∷ es) k v q x e = set_at es entry.0 entry.1 v k q x (lookup-set es k v q x) (same k entry.0) refl e

  written_at : (es : List (K × X)) (key : K) (old x v : X) (k : K) → (there : Bool) → same k key ≡ there →
      cond there (Some old) (lookup (same k) es) ≡ Some x →
      (lookup (same k) es ≡ Some x → lookup (same k) (set_value (same k) es v) ≡ Some v) →
      lookup (same k) (cond there ((key, v) ∷ es) ((key, old) ∷ set_value (same k) es v)) ≡ Some v
  written_at es key old x v k true is e later = ap (λ b. cond b (Some v) (lookup (same k) es)) is
  written_at es key old x v k false is e later =
      ap (λ b. cond b (Some old) (lookup (same k) (set_value (same k) es v))) is ∙ later e

  -- what was written is found, if there was a value before
  pub lookup-written : (es : List (K × X)) (k : K) (x v : X) → lookup (same k) es ≡ Some x → lookup (same k) (set_value (same k) es v) ≡ Some v
  lookup-written [] k x v e = absurd cc
  lookup-written (entry ∷ es) k x v e =
      written_at es entry.0 entry.1 x v k (same k entry.0) refl e (lookup-written es k x v)

  set_none_at : (es : List (K × X)) (key : K) (old v : X) (k q : K) →
      (lookup (same q) es ≡ None → lookup (same q) (set_value (same k) es v) ≡ None) → lookup (same q) ((key, old) ∷ es) ≡ None →
      (there : Bool) → lookup (same q) (cond there ((key, v) ∷ es) ((key, old) ∷ set_value (same k) es v)) ≡ None
  set_none_at es key old v k q later e true = none_after (same q key) old v (lookup (same q) es) (lookup (same q) es) (λ f. f) e
  set_none_at es key old v k q later e false =
      none_after (same q key) old old (lookup (same q) es) (lookup (same q) (set_value (same k) es v)) later e

  -- a key that is not there is not there after a write
  set_none : (es : List (K × X)) (k : K) (v : X) (q : K) → lookup (same q) es ≡ None → lookup (same q) (set_value (same k) es v) ≡ None
  set_none [] k v q e = e
  set_none (entry ∷ es) k v q e = set_none_at es entry.0 entry.1 v k q (set_none es k v q) e (same k entry.0)

  -- ---- a value is removed

  remove_none_at : (es : List (K × X)) (key : K) (old : X) (k q : K) →
      (lookup (same q) es ≡ None → lookup (same q) (remove_entry (same k) es) ≡ None) → lookup (same q) ((key, old) ∷ es) ≡ None →
      (there : Bool) → lookup (same q) (cond there es ((key, old) ∷ remove_entry (same k) es)) ≡ None
  remove_none_at es key old k q later e true = none_rest (same q key) old (lookup (same q) es) e
  remove_none_at es key old k q later e false =
      none_after (same q key) old old (lookup (same q) es) (lookup (same q) (remove_entry (same k) es)) later e

  -- a key that is not there is not there after a removal
  remove_none : (es : List (K × X)) (k q : K) → lookup (same q) es ≡ None → lookup (same q) (remove_entry (same k) es) ≡ None
  remove_none [] k q e = e
  remove_none (entry ∷ es) k q e = remove_none_at es entry.0 entry.1 k q (remove_none es k q) e (same k entry.0)

  -- each key occurs once
  abbrev pub IsApart : List (K × X) → Type 0
  IsApart [] = Unit {0}
  IsApart (entry ∷ es) = (lookup (same entry.0) es ≡ None) × IsApart es

  -- what is found among the rest is found in all, as the first key does not occur again
  rest_here : (es : List (K × X)) (key : K) (old : X) (q : K) (x : X) → lookup (same key) es ≡ None → lookup (same q) es ≡ Some x →
      (here : Bool) → same q key ≡ here → cond here (Some old) (lookup (same q) es) ≡ Some x
  rest_here es key old q x none e true is =
      let gone : lookup (same q) es ≡ None = ap (λ k. lookup (same k) es) (exact q key is) ∙ none in
      absurd cc
  rest_here es key old q x none e false is = e

  rest_later : (here : Bool) (old x : X) (o p : Option X) → (o ≡ Some x → p ≡ Some x) → cond here (Some old) o ≡ Some x → cond here (Some old) p ≡ Some x
  rest_later true old x o p later e = e
  rest_later false old x o p later e = later e

  remove_at : (es : List (K × X)) (key : K) (old : X) (k q : K) (x : X) → IsApart ((key, old) ∷ es) →
      (lookup (same q) (remove_entry (same k) es) ≡ Some x → lookup (same q) es ≡ Some x) → (there : Bool) →
      lookup (same q) (cond there es ((key, old) ∷ remove_entry (same k) es)) ≡ Some x → lookup (same q) ((key, old) ∷ es) ≡ Some x
  remove_at es key old k q x apart later true e = rest_here es key old q x apart.0 e (same q key) refl
  remove_at es key old k q x apart later false e =
      rest_later (same q key) old x (lookup (same q) (remove_entry (same k) es)) (lookup (same q) es) later e

  -- what is found afterwards was there before
  pub lookup-remove : (es : List (K × X)) (k q : K) (x : X) → IsApart es → lookup (same q) (remove_entry (same k) es) ≡ Some x → lookup (same q) es ≡ Some x
  lookup-remove [] k q x apart e = e
  lookup-remove (entry ∷ es) k q x apart e =
      remove_at es entry.0 entry.1 k q x apart (lookup-remove es k q x apart.1) (same k entry.0) e

  removed_at : (es : List (K × X)) (key : K) (old : X) (k : K) → lookup (same key) es ≡ None → lookup (same k) (remove_entry (same k) es) ≡ None →
      (there : Bool) → same k key ≡ there → lookup (same k) (cond there es ((key, old) ∷ remove_entry (same k) es)) ≡ None
  removed_at es key old k apart later true is = ap (λ x. lookup (same x) es) (exact k key is) ∙ apart
  removed_at es key old k apart later false is = ap (λ b. cond b (Some old) (lookup (same k) (remove_entry (same k) es))) is ∙ later

  -- what was removed is not found
  pub lookup-removed : (es : List (K × X)) (k : K) → IsApart es → lookup (same k) (remove_entry (same k) es) ≡ None
  lookup-removed [] k apart = refl
  lookup-removed (entry ∷ es) k apart = removed_at es entry.0 entry.1 k apart.0 (lookup-removed es k apart.1) (same k entry.0) refl

  set_apart_at : (es : List (K × X)) (key : K) (old v : X) (k : K) → IsApart ((key, old) ∷ es) → IsApart (set_value (same k) es v) →
      (there : Bool) → IsApart (cond there ((key, v) ∷ es) ((key, old) ∷ set_value (same k) es v))
  set_apart_at es key old v k apart later true = apart
  set_apart_at es key old v k apart later false = (set_none es k v key apart.0, later)

  -- a write keeps the keys apart
  pub apart-set : (es : List (K × X)) (k : K) (v : X) → IsApart es → IsApart (set_value (same k) es v)
  apart-set [] k v apart = tt
  apart-set (entry ∷ es) k v apart = set_apart_at es entry.0 entry.1 v k apart (apart-set es k v apart.1) (same k entry.0)

  remove_apart_at : (es : List (K × X)) (key : K) (old : X) (k : K) → IsApart ((key, old) ∷ es) → IsApart (remove_entry (same k) es) →
      (there : Bool) → IsApart (cond there es ((key, old) ∷ remove_entry (same k) es))
  remove_apart_at es key old k apart later true = apart.1
  remove_apart_at es key old k apart later false = (remove_none es k key apart.0, later)

  -- a removal keeps the keys apart
  pub apart-remove : (es : List (K × X)) (k : K) → IsApart es → IsApart (remove_entry (same k) es)
  apart-remove [] k apart = tt
  apart-remove (entry ∷ es) k apart = remove_apart_at es entry.0 entry.1 k apart (apart-remove es k apart.1) (same k entry.0)

-- ---- an entry is inserted, in the order of the keys

-- keys are the same if their order is equality
abbrev pub same_by : {K : Type 0} → (K → K → Ordering) → K → K → Bool
same_by cmp a b = is_eq (cmp a b)

-- a test of keys that is exact and holds for each key with itself is symmetric
turned : {K : Type 0} (cmp : K → K → Ordering) (exact : (a b : K) → is_eq (cmp a b) ≡ true → a ≡ b) (reflexive : (a : K) → same_by cmp a a ≡ true) (a b : K) →
    same_by cmp a b ≡ false → (there : Bool) → same_by cmp b a ≡ there → same_by cmp b a ≡ false
turned cmp exact reflexive a b other true is =
    let both : same_by cmp a b ≡ true = ap (λ k. same_by cmp a k) (exact b a is) ∙ reflexive a in
    absurd cc
turned cmp exact reflexive a b other false is = is

module _ {K X : Type 0} (cmp : K → K → Ordering) (exact : (a b : K) → is_eq (cmp a b) ≡ true → a ≡ b) where
  -- in a map of one entry that is the new one
  one_here : (v : X) (k q : K) (x : X) → (here : Bool) → same_by cmp q k ≡ here → cond here (Some v) None ≡ Some x → (q ≡ k) × (x ≡ v)
  one_here v k q x true is e = (exact q k is, cc)
  one_here v k q x false is e = absurd cc

  -- if the new entry is the first
  first_here : (es : List (K × X)) (v : X) (k q : K) (x : X) → (here : Bool) → same_by cmp q k ≡ here →
      cond here (Some v) (lookup (same_by cmp q) es) ≡ Some x → NewOrOld (same_by cmp) exact es k v q x
  first_here es v k q x true is e = inl (exact q k is, cc)
  first_here es v k q x false is e = inr e

  insert_at : (es : List (K × X)) (key : K) (old v : X) (k q : K) (x : X) →
      (lookup (same_by cmp q) (insert_entry cmp es k v) ≡ Some x → NewOrOld (same_by cmp) exact es k v q x) → (order : Ordering) →
      cmp k key ≡ order →
      lookup (same_by cmp q) (match_ordering order ((k, v) ∷ (key, old) ∷ es) ((key, v) ∷ es) ((key, old) ∷ insert_entry cmp es k v)) ≡ Some x →
      NewOrOld (same_by cmp) exact ((key, old) ∷ es) k v q x
  insert_at es key old v k q x later Less is e = first_here ((key, old) ∷ es) v k q x (same_by cmp q k) refl e
  insert_at es key old v k q x later Equal is e = new_here (same_by cmp) exact es key old v k q x (exact k key (ap is_eq is)) (same_by cmp q key) refl e
  insert_at es key old v k q x later Greater is e =
      new_later (same_by cmp) exact es old v k q x (lookup (same_by cmp q) (insert_entry cmp es k v)) (same_by cmp q key) later e

  -- after an insertion a look-up finds the new value at its key, and at others what was there
  pub lookup-insert_entry : (es : List (K × X)) (k : K) (v : X) (q : K) (x : X) →
      lookup (same_by cmp q) (insert_entry cmp es k v) ≡ Some x → NewOrOld (same_by cmp) exact es k v q x
  lookup-insert_entry [] k v q x e = inl (one_here v k q x (same_by cmp q k) refl e)
  lookup-insert_entry (entry ∷ es) k v q x e =
      insert_at es entry.0 entry.1 v k q x (lookup-insert_entry es k v q x) (cmp k entry.0) refl e

  insert_none_at : (es : List (K × X)) (key : K) (old v : X) (k q : K) → same_by cmp q k ≡ false →
      (lookup (same_by cmp q) es ≡ None → lookup (same_by cmp q) (insert_entry cmp es k v) ≡ None) →
      lookup (same_by cmp q) ((key, old) ∷ es) ≡ None → (order : Ordering) →
      lookup (same_by cmp q) (match_ordering order ((k, v) ∷ (key, old) ∷ es) ((key, v) ∷ es) ((key, old) ∷ insert_entry cmp es k v)) ≡ None
  insert_none_at es key old v k q other later e Less = miss (same_by cmp q k) v (lookup (same_by cmp q) ((key, old) ∷ es)) other e
  insert_none_at es key old v k q other later e Equal = none_after (same_by cmp q key) old v (lookup (same_by cmp q) es) (lookup (same_by cmp q) es) (λ f. f) e
  insert_none_at es key old v k q other later e Greater =
      none_after (same_by cmp q key) old old (lookup (same_by cmp q) es) (lookup (same_by cmp q) (insert_entry cmp es k v)) later e

  -- a key that is not there is not there after another was inserted
  insert_none : (es : List (K × X)) (k : K) (v : X) (q : K) → same_by cmp q k ≡ false → lookup (same_by cmp q) es ≡ None →
      lookup (same_by cmp q) (insert_entry cmp es k v) ≡ None
  insert_none [] k v q other e = miss (same_by cmp q k) v None other refl
  insert_none (entry ∷ es) k v q other e =
      insert_none_at es entry.0 entry.1 v k q other (insert_none es k v q other) e (cmp k entry.0)

  insert_apart_at : (reflexive : (a : K) → same_by cmp a a ≡ true) (es : List (K × X)) (key : K) (old v : X) (k : K) →
      lookup (same_by cmp k) ((key, old) ∷ es) ≡ None → IsApart (same_by cmp) exact ((key, old) ∷ es) →
      IsApart (same_by cmp) exact (insert_entry cmp es k v) → (order : Ordering) →
      IsApart (same_by cmp) exact (match_ordering order ((k, v) ∷ (key, old) ∷ es) ((key, v) ∷ es) ((key, old) ∷ insert_entry cmp es k v))
  insert_apart_at reflexive es key old v k none apart later Less = (none, apart)
  insert_apart_at reflexive es key old v k none apart later Equal = apart
  insert_apart_at reflexive es key old v k none apart later Greater =
      let other = none_here (same_by cmp k key) old (lookup (same_by cmp k) es) none in
      (insert_none es k v key (turned cmp exact reflexive k key other (same_by cmp key k) refl) apart.0, later)

  -- inserting a new key keeps the keys apart
  pub apart-insert_entry : (reflexive : (a : K) → same_by cmp a a ≡ true) (es : List (K × X)) (k : K) (v : X) →
      lookup (same_by cmp k) es ≡ None → IsApart (same_by cmp) exact es → IsApart (same_by cmp) exact (insert_entry cmp es k v)
  apart-insert_entry reflexive [] k v none apart = (refl, tt)
  apart-insert_entry reflexive (entry ∷ es) k v none apart =
      let rest = none_rest (same_by cmp k entry.0) entry.1 (lookup (same_by cmp k) es) none in
      insert_apart_at reflexive es entry.0 entry.1 v k none apart (apart-insert_entry reflexive es k v rest apart.1) (cmp k entry.0)

  inserted_at : (reflexive : (a : K) → same_by cmp a a ≡ true) (es : List (K × X)) (key : K) (old v : X) (k : K) →
      lookup (same_by cmp k) (insert_entry cmp es k v) ≡ Some v → (order : Ordering) → cmp k key ≡ order →
      lookup (same_by cmp k) (match_ordering order ((k, v) ∷ (key, old) ∷ es) ((key, v) ∷ es) ((key, old) ∷ insert_entry cmp es k v)) ≡ Some v
  inserted_at reflexive es key old v k later Less is = ap (λ b. cond b (Some v) (lookup (same_by cmp k) ((key, old) ∷ es))) (reflexive k)
  inserted_at reflexive es key old v k later Equal is = ap (λ b. cond b (Some v) (lookup (same_by cmp k) es)) (ap is_eq is)
  inserted_at reflexive es key old v k later Greater is =
      ap (λ b. cond b (Some old) (lookup (same_by cmp k) (insert_entry cmp es k v))) (ap is_eq is) ∙ later

  -- what was inserted is found
  pub lookup-inserted : (reflexive : (a : K) → same_by cmp a a ≡ true) (es : List (K × X)) (k : K) (v : X) →
      lookup (same_by cmp k) (insert_entry cmp es k v) ≡ Some v
  lookup-inserted reflexive [] k v = ap (λ b. cond b (Some v) None) (reflexive k)
  lookup-inserted reflexive (entry ∷ es) k v =
      inserted_at reflexive es entry.0 entry.1 v k (lookup-inserted reflexive es k v) (cmp k entry.0) refl

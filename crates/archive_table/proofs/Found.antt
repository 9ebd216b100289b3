-- What is at the ports after a key is added, written or removed.
use Rattle.std.specs.Prelude.{◌≡◌, ◌≢◌, ℕ, suc, Bool, true, false, cond, List, [], ◌∷◌, length, Option, None, Some, IsSome, is_some, IfSome}
use Rattle.std.proofs.Common.{refl, sym, ap, ◌∙◌, inl, inr, subst}
use Rattle.std.specs.List.{All, filter}
use Rattle.std.specs.BTreeMap.Range.{entries_between, range_contains}
use Rattle.std.specs.declared.ops.Bound.{Bound}
use Rattle.archive_table.specs.Table.{first_live}
use Rattle.std.specs.declared.cmp.Ordering.{Ordering}
use Rattle.std.specs.declared.cmp.Ordering.TheVariants.{Less, Equal, Greater}
use Rattle.std.specs.Ordering.{match_ordering, is_eq, nat_cmp}
use Rattle.std.specs.Map.{lookup, remove_entry, set_value, values_of}
use Rattle.std.specs.BTreeMap.{is_at, insert_entry}
use Rattle.std.proofs.lemmas.Bool.{cases_Bool, true≢false}
use Rattle.std.proofs.lemmas.List.Elements.{All-head, All-tail, All-cons, All-nil, All-weaker}
use Rattle.std.proofs.lemmas.Map.Views.{All-values-insert_entry, All-map-remove_entry, IfSome-lookup_from_All}
use Rattle.archive_table.specs.Ports.{entry_at, found_at, AreApart}
use Rattle.archive_table.proofs.Live.{if_true, if_false, some_none}

pub some_is_none : {X : Type 0} (o : Option X) → IsSome o → o ≡ None → ⊥
some_is_none None s e = true≢false (sym s)
some_is_none (Some x) s e = true≢false (ap is_some e)

-- the value of an option, or a default
abbrev value_or : ℕ → Option ℕ → ℕ
value_or d None = d
value_or d (Some x) = x

some_same : {a b : ℕ} → Some a ≡ Some b → a ≡ b
some_same e = ap (value_or 0) e

held_head : {T : Type 0} (slot : ℕ → Option T) (e : ℕ × ℕ) (es : List (ℕ × ℕ)) → All (λ k. IsSome (slot k)) (values_of (e ∷ es)) → IsSome (slot e.1)
held_head slot e es a = All-head (λ k. IsSome (slot k)) e.1 (values_of es) a

held_tail : {T : Type 0} (slot : ℕ → Option T) (e : ℕ × ℕ) (es : List (ℕ × ℕ)) → All (λ k. IsSome (slot k)) (values_of (e ∷ es)) → All (λ k. IsSome (slot k)) (values_of es)
held_tail slot e es a = All-tail (λ k. IsSome (slot k)) e.1 (values_of es) a

other_head : (key : ℕ) (e : ℕ × ℕ) (es : List (ℕ × ℕ)) → All (λ k. k ≢ key) (values_of (e ∷ es)) → e.1 ≢ key
other_head key e es a = All-head (λ k. k ≢ key) e.1 (values_of es) a

other_tail : (key : ℕ) (e : ℕ × ℕ) (es : List (ℕ × ℕ)) → All (λ k. k ≢ key) (values_of (e ∷ es)) → All (λ k. k ≢ key) (values_of es)
other_tail key e es a = All-tail (λ k. k ≢ key) e.1 (values_of es) a

-- what is in the slot of a key, if there is a key
abbrev pub then_at : {T : Type 0} → (ℕ → Option T) → Option ℕ → Option T
then_at slot None = None
then_at slot (Some k) = slot k

-- a port's key leads to the value at the port
pub lookup_found : {T : Type 0} (slot : ℕ → Option T) (test : ℕ → Bool) (es : List (ℕ × ℕ)) → All (λ k. IsSome (slot k)) (values_of es) → lookup test (found_at slot es) ≡ then_at slot (lookup test es)
lookup_found slot test [] a = refl
lookup_found {T} slot test (e ∷ es) a = by (slot e.1) refl (held_head slot e es a) (lookup_found slot test es (held_tail slot e es a))
  where
    by : (o : Option T) → slot e.1 ≡ o → IsSome o → lookup test (found_at slot es) ≡ then_at slot (lookup test es) →
        lookup test (entry_at e.0 (slot e.1) (found_at slot es)) ≡ then_at slot (lookup test (e ∷ es))
    by None is s h = absurd (true≢false (sym s))
    by (Some x) is s h = ap (λ (o : Option T). lookup test (entry_at e.0 o (found_at slot es))) is ∙ elim (cases_Bool (test e.0)) [
      | inl y ↦ if_true (Some x) _ y ∙ sym is ∙ sym (ap (then_at slot) (if_true (Some e.1) (lookup test es) y))
      | inr n ↦ if_false (Some x) _ n ∙ h ∙ sym (ap (then_at slot) (if_false (Some e.1) (lookup test es) n))
    ]

-- as many ports as keys
pub length_found : {T : Type 0} (slot : ℕ → Option T) (es : List (ℕ × ℕ)) → All (λ k. IsSome (slot k)) (values_of es) → length (found_at slot es) ≡ length es
length_found slot [] a = refl
length_found {T} slot (e ∷ es) a = by (slot e.1) (held_head slot e es a) (length_found slot es (held_tail slot e es a))
  where
    by : (o : Option T) → IsSome o → length (found_at slot es) ≡ length es → length (entry_at e.0 o (found_at slot es)) ≡ length (e ∷ es)
    by None s h = absurd (true≢false (sym s))
    by (Some x) s h = ap suc h

-- the slots agree except at one key
abbrev pub Agree : {T : Type 0} → (old new : ℕ → Option T) → (key : ℕ) → Type 0
Agree old new key = (other : ℕ) → other ≢ key → new other ≡ old other

-- ports that do not lead to the key have the same values as before
pub found_same : {T : Type 0} (old new : ℕ → Option T) (key : ℕ) (es : List (ℕ × ℕ)) → Agree old new key → All (λ k. k ≢ key) (values_of es) → found_at new es ≡ found_at old es
found_same old new key [] agree a = refl
found_same {T} old new key (e ∷ es) agree a =
    ap (λ (o : Option T). entry_at e.0 o (found_at new es)) (agree e.1 (other_head key e es a))
    ∙ ap (entry_at e.0 (old e.1)) (found_same old new key es agree (other_tail key e es a))

-- a new port with a new key
pub found_insert : {T : Type 0} (old new : ℕ → Option T) (port key : ℕ) (x : T) (es : List (ℕ × ℕ)) → Agree old new key →
    new key ≡ Some x → All (λ k. k ≢ key) (values_of es) → All (λ k. IsSome (old k)) (values_of es) →
    lookup (is_at (nat_cmp port)) es ≡ None →
    found_at new (insert_entry nat_cmp es port key) ≡ insert_entry nat_cmp (found_at old es) port x
found_insert {T} old new port key x [] agree at a held free = ap (λ (o : Option T). entry_at port o []) at
found_insert {T} old new port key x (e ∷ es) agree at a held free =
    by (nat_cmp port e.0) refl (found_insert old new port key x es agree at (other_tail key e es a) (held_tail old e es held))
    (old e.1) refl (held_head old e es held)
  where
    by : (r : Ordering) → nat_cmp port e.0 ≡ r →
        (lookup (is_at (nat_cmp port)) es ≡ None →
        found_at new (insert_entry nat_cmp es port key) ≡ insert_entry nat_cmp (found_at old es) port x) → (o : Option T) →
        old e.1 ≡ o → IsSome o →
        found_at new (insert_entry nat_cmp (e ∷ es) port key) ≡ insert_entry nat_cmp
        (entry_at e.0 (old e.1) (found_at old es)) port x
    by r is again None o_is s = absurd (true≢false (sym s))
    by Less is again (Some y) o_is s =
        ap (λ c. found_at new (match_ordering c ((port, key) ∷ e ∷ es) ((e.0, key) ∷ es) (e ∷ insert_entry nat_cmp es port key))) is
        ∙ ap (λ (o : Option T). entry_at port o (found_at new (e ∷ es))) at
        ∙ ap (λ (l : List (ℕ × T)). (port, x) ∷ l) (found_same old new key (e ∷ es) agree a)
        ∙ ap (λ (o : Option T). (port, x) ∷ entry_at e.0 o (found_at old es)) o_is
        ∙ sym (ap (λ c. match_ordering c ((port, x) ∷ (e.0, y) ∷ found_at old es) ((e.0, x) ∷ found_at old es) ((e.0, y) ∷ insert_entry nat_cmp (found_at old es) port x)) is)
        ∙ sym (ap (λ (o : Option T). insert_entry nat_cmp (entry_at e.0 o (found_at old es)) port x) o_is)
    by Equal is again (Some y) o_is s = some_none (sym (ap (λ c. cond (is_eq c) (Some e.1) (lookup (is_at (nat_cmp port)) es)) is) ∙ free)
    by Greater is again (Some y) o_is s =
        ap (λ c. found_at new (match_ordering c ((port, key) ∷ e ∷ es) ((e.0, key) ∷ es) (e ∷ insert_entry nat_cmp es port key))) is
        ∙ ap (λ (o : Option T). entry_at e.0 o (found_at new (insert_entry nat_cmp es port key))) (agree e.1 (other_head key e es a) ∙ o_is)
        ∙ ap (λ (l : List (ℕ × T)). (e.0, y) ∷ l) (again (sym (ap (λ c. cond (is_eq c) (Some e.1) (lookup (is_at (nat_cmp port)) es)) is) ∙ free))
        ∙ sym (ap (λ c. match_ordering c ((port, x) ∷ (e.0, y) ∷ found_at old es) ((e.0, x) ∷ found_at old es) ((e.0, y) ∷ insert_entry nat_cmp (found_at old es) port x)) is)
        ∙ sym (ap (λ (o : Option T). insert_entry nat_cmp (entry_at e.0 o (found_at old es)) port x) o_is)

-- what holds for each key holds for the one that a port leads to
pub at_found : (P : ℕ → Type 0) (test : ℕ → Bool) (es : List (ℕ × ℕ)) (key : ℕ) → All P (values_of es) → lookup test es ≡ Some key → P key
at_found P test es key a h = subst (λ (o : Option ℕ). IfSome o P) h (IfSome-lookup_from_All P test es a)

-- a port's slot is written
pub found_set : {T : Type 0} (old new : ℕ → Option T) (test : ℕ → Bool) (key : ℕ) (x : T) (es : List (ℕ × ℕ)) →
    Agree old new key → new key ≡ Some x → AreApart es → All (λ k. IsSome (old k)) (values_of es) → lookup test es ≡ Some key →
    found_at new es ≡ set_value test (found_at old es) x
found_set {T} old new test key x [] agree at apart held h = refl
found_set {T} old new test key x (e ∷ es) agree at apart held h = by (found_set old new test key x es agree at apart.1 (held_tail old e es held)) (old e.1) refl (held_head old e es held)
  where
    by : (lookup test es ≡ Some key → found_at new es ≡ set_value test (found_at old es) x) → (o : Option T) → old e.1 ≡ o →
        IsSome o → found_at new (e ∷ es) ≡ set_value test (entry_at e.0 (old e.1) (found_at old es)) x
    by again None is s = absurd (true≢false (sym s))
    by again (Some y) is s = elim (cases_Bool (test e.0)) [
      | inl t ↦
          let same : e.1 ≡ key = some_same (sym (if_true (Some e.1) (lookup test es) t) ∙ h) in
          ap (λ (o : Option T). entry_at e.0 o (found_at new es)) (ap new same ∙ at)
          ∙ ap (λ (l : List (ℕ × T)). (e.0, x) ∷ l) (found_same old new key es agree (subst (λ k. All (λ v. v ≢ k) (values_of es)) same apart.0))
          ∙ sym (if_true ((e.0, x) ∷ found_at old es) _ t)
          ∙ sym (ap (λ (o : Option T). set_value test (entry_at e.0 o (found_at old es)) x) is)
      | inr n ↦
          let later : lookup test es ≡ Some key = sym (if_false (Some e.1) (lookup test es) n) ∙ h in
          let other : e.1 ≢ key = λ q. at_found (λ k. k ≢ e.1) test es key apart.0 later (sym q) in
          ap (λ (o : Option T). entry_at e.0 o (found_at new es)) (agree e.1 other ∙ is)
          ∙ ap (λ (l : List (ℕ × T)). (e.0, y) ∷ l) (again later)
          ∙ sym (if_false ((e.0, x) ∷ found_at old es) _ n)
          ∙ sym (ap (λ (o : Option T). set_value test (entry_at e.0 o (found_at old es)) x) is)
    ]

-- a port and its slot are removed
pub found_remove : {T : Type 0} (old new : ℕ → Option T) (test : ℕ → Bool) (key : ℕ) (es : List (ℕ × ℕ)) → Agree old new key →
    AreApart es → All (λ k. IsSome (old k)) (values_of es) → lookup test es ≡ Some key →
    found_at new (remove_entry test es) ≡ remove_entry test (found_at old es)
found_remove {T} old new test key [] agree apart held h = refl
found_remove {T} old new test key (e ∷ es) agree apart held h = by (found_remove old new test key es agree apart.1 (held_tail old e es held)) (old e.1) refl (held_head old e es held)
  where
    by : (lookup test es ≡ Some key → found_at new (remove_entry test es) ≡ remove_entry test (found_at old es)) →
        (o : Option T) → old e.1 ≡ o → IsSome o →
        found_at new (remove_entry test (e ∷ es)) ≡ remove_entry test (entry_at e.0 (old e.1) (found_at old es))
    by again None is s = absurd (true≢false (sym s))
    by again (Some y) is s = elim (cases_Bool (test e.0)) [
      | inl t ↦
          let same : e.1 ≡ key = some_same (sym (if_true (Some e.1) (lookup test es) t) ∙ h) in
          ap (found_at new) (if_true es _ t)
          ∙ found_same old new key es agree (subst (λ k. All (λ v. v ≢ k) (values_of es)) same apart.0)
          ∙ sym (if_true (found_at old es) _ t)
          ∙ sym (ap (λ (o : Option T). remove_entry test (entry_at e.0 o (found_at old es))) is)
      | inr n ↦
          let later : lookup test es ≡ Some key = sym (if_false (Some e.1) (lookup test es) n) ∙ h in
          let other : e.1 ≢ key = λ q. at_found (λ k. k ≢ e.1) test es key apart.0 later (sym q) in
          ap (found_at new) (if_false es (e ∷ remove_entry test es) n)
          ∙ ap (λ (o : Option T). entry_at e.0 o (found_at new (remove_entry test es))) (agree e.1 other ∙ is)
          ∙ ap (λ (l : List (ℕ × T)). (e.0, y) ∷ l) (again later)
          ∙ sym (if_false (found_at old es) ((e.0, y) ∷ remove_entry test (found_at old es)) n)
          ∙ sym (ap (λ (o : Option T). remove_entry test (entry_at e.0 o (found_at old es))) is)
    ]

-- ---- the keys stay apart

-- with a new key the ports' keys are still apart
pub apart_insert : (port key : ℕ) (es : List (ℕ × ℕ)) → AreApart es → All (λ k. k ≢ key) (values_of es) → lookup (is_at (nat_cmp port)) es ≡ None → AreApart (insert_entry nat_cmp es port key)
apart_insert port key [] apart a free = (All-nil (λ k. k ≢ key), tt)
apart_insert port key (e ∷ es) apart a free = by (nat_cmp port e.0) refl (apart_insert port key es apart.1 (other_tail key e es a))
  where
    by : (r : Ordering) → nat_cmp port e.0 ≡ r →
        (lookup (is_at (nat_cmp port)) es ≡ None → AreApart (insert_entry nat_cmp es port key)) →
        AreApart (match_ordering r ((port, key) ∷ e ∷ es) ((e.0, key) ∷ es) (e ∷ insert_entry nat_cmp es port key))
    by Less is again = (a, apart)
    by Equal is again = some_none (sym (ap (λ c. cond (is_eq c) (Some e.1) (lookup (is_at (nat_cmp port)) es)) is) ∙ free)
    by Greater is again = (
      All-values-insert_entry nat_cmp port key (λ k. k ≢ e.1) es apart.0 (λ q. other_head key e es a (sym q)),
      again (sym (ap (λ c. cond (is_eq c) (Some e.1) (lookup (is_at (nat_cmp port)) es)) is) ∙ free),
    )

-- the keys that are left when ports are removed are apart
pub apart_remove : (test : ℕ → Bool) (es : List (ℕ × ℕ)) → AreApart es → AreApart (remove_entry test es)
apart_remove test [] apart = tt
apart_remove test (e ∷ es) apart = by (apart_remove test es apart.1) (test e.0)
  where
    by : AreApart (remove_entry test es) → (b : Bool) → AreApart (cond b es (e ∷ remove_entry test es))
    by again true = apart.1
    by again false = (All-map-remove_entry test (λ (x : ℕ × ℕ). x.1) (λ k. k ≢ e.1) es apart.0, again)

-- a key that leads nowhere is not among those that are held
pub free_key : {T : Type 0} (slot : ℕ → Option T) (key : ℕ) (es : List (ℕ × ℕ)) → slot key ≡ None → All (λ k. IsSome (slot k)) (values_of es) → All (λ k. k ≢ key) (values_of es)
free_key slot key es none held = All-weaker (λ k. IsSome (slot k)) (λ k. k ≢ key) (λ k s q. some_is_none (slot key) (subst (λ (i : ℕ). IsSome (slot i)) q s) none) (values_of es) held

-- what is held stays held when one slot is filled
pub held_filled : {T : Type 0} (old new : ℕ → Option T) (key : ℕ) (es : List (ℕ × ℕ)) → Agree old new key →
    All (λ k. k ≢ key) (values_of es) → All (λ k. IsSome (old k)) (values_of es) → All (λ k. IsSome (new k)) (values_of es)
held_filled {T} old new key [] agree a held = All-nil (λ k. IsSome (new k))
held_filled {T} old new key (e ∷ es) agree a held =
    All-cons (λ k. IsSome (new k)) e.1 (values_of es)
    (subst (λ (o : Option T). IsSome o) (sym (agree e.1 (other_head key e es a))) (held_head old e es held))
    (held_filled old new key es agree (other_tail key e es a) (held_tail old e es held))

-- the remaining keys differ from the one that was removed
pub others_left : (test : ℕ → Bool) (key : ℕ) (es : List (ℕ × ℕ)) → AreApart es → lookup test es ≡ Some key → All (λ k. k ≢ key) (values_of (remove_entry test es))
others_left test key [] apart h = All-nil (λ k. k ≢ key)
others_left test key (e ∷ es) apart h = elim (cases_Bool (test e.0)) [
  | inl t ↦
      let same : e.1 ≡ key = some_same (sym (if_true (Some e.1) (lookup test es) t) ∙ h) in
      subst (λ (l : List (ℕ × ℕ)). All (λ k. k ≢ key) (values_of l)) (sym (if_true es _ t)) (subst (λ i. All (λ k. k ≢ i) (values_of es)) same apart.0)
  | inr n ↦
      let later : lookup test es ≡ Some key = sym (if_false (Some e.1) (lookup test es) n) ∙ h in
      subst (λ (l : List (ℕ × ℕ)). All (λ k. k ≢ key) (values_of l)) (sym (if_false es (e ∷ remove_entry test es) n))
      (All-cons (λ k. k ≢ key) e.1 (values_of (remove_entry test es))
      (λ q. at_found (λ k. k ≢ e.1) test es key apart.0 later (sym q)) (others_left test key es apart.1 later))
]

-- ---- how many there are

pub length_inserted : (port key : ℕ) (es : List (ℕ × ℕ)) → lookup (is_at (nat_cmp port)) es ≡ None → length (insert_entry nat_cmp es port key) ≡ suc (length es)
length_inserted port key [] free = refl
length_inserted port key (e ∷ es) free = by (nat_cmp port e.0) refl (length_inserted port key es)
  where
    by : (r : Ordering) → nat_cmp port e.0 ≡ r →
        (lookup (is_at (nat_cmp port)) es ≡ None → length (insert_entry nat_cmp es port key) ≡ suc (length es)) →
        length (match_ordering r ((port, key) ∷ e ∷ es) ((e.0, key) ∷ es) (e ∷ insert_entry nat_cmp es port key)) ≡ suc
        (length (e ∷ es))
    by Less is again = refl
    by Equal is again = some_none (sym (ap (λ c. cond (is_eq c) (Some e.1) (lookup (is_at (nat_cmp port)) es)) is) ∙ free)
    by Greater is again = ap suc (again (sym (ap (λ c. cond (is_eq c) (Some e.1) (lookup (is_at (nat_cmp port)) es)) is) ∙ free))

pub length_removed : (test : ℕ → Bool) (key : ℕ) (es : List (ℕ × ℕ)) → lookup test es ≡ Some key → suc (length (remove_entry test es)) ≡ length es
length_removed test key [] is = some_none (sym is)
length_removed test key (e ∷ es) is = elim (cases_Bool (test e.0)) [
  | inl t ↦ ap (λ (l : List (ℕ × ℕ)). suc (length l)) (if_true es _ t)
  | inr n ↦ ap (λ (l : List (ℕ × ℕ)). suc (length l)) (if_false es (e ∷ remove_entry test es) n) ∙ ap suc (length_removed test key es (sym (if_false (Some e.1) (lookup test es) n) ∙ is))
]

-- ---- the next port

-- the first port that passes a test is that of the first key that does
above_found : {T : Type 0} (slot : ℕ → Option T) (test : ℕ → Bool) (es : List (ℕ × ℕ)) →
    All (λ k. IsSome (slot k)) (values_of es) →
    first_live (filter (λ (e : ℕ × T). test e.0) (found_at slot es)) ≡ first_live (filter (λ (e : ℕ × ℕ). test e.0) es)
above_found slot test [] a = refl
above_found {T} slot test (e ∷ es) a = by (slot e.1) (held_head slot e es a) (above_found slot test es (held_tail slot e es a))
  where
    here : (b : Bool) (x : T) →
        first_live (filter (λ (e : ℕ × T). test e.0) (found_at slot es)) ≡ first_live (filter (λ (e : ℕ × ℕ). test e.0) es) →
        first_live (cond b ((e.0, x) ∷ filter (λ (e : ℕ × T). test e.0) (found_at slot es))
        (filter (λ (e : ℕ × T). test e.0) (found_at slot es))) ≡ first_live
        (cond b (e ∷ filter (λ (e : ℕ × ℕ). test e.0) es) (filter (λ (e : ℕ × ℕ). test e.0) es))
    here true x again = refl
    here false x again = again

    by : (o : Option T) → IsSome o →
        first_live (filter (λ (e : ℕ × T). test e.0) (found_at slot es)) ≡ first_live (filter (λ (e : ℕ × ℕ). test e.0) es) →
        first_live (filter (λ (e : ℕ × T). test e.0) (entry_at e.0 o (found_at slot es))) ≡ first_live
        (filter (λ (e : ℕ × ℕ). test e.0) (e ∷ es))
    by None s again = absurd (true≢false (sym s))
    by (Some x) s again = here (test e.0) x again

-- the first port in a range is that of the first key in it
pub first_above : {T : Type 0} (slot : ℕ → Option T) (lo hi : Bound ℕ) (es : List (ℕ × ℕ)) →
    All (λ k. IsSome (slot k)) (values_of es) →
    first_live (entries_between nat_cmp lo hi (found_at slot es)) ≡ first_live (entries_between nat_cmp lo hi es)
first_above slot lo hi es a = above_found slot (range_contains nat_cmp lo hi) es a

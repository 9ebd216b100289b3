-- What is best after one more solution is the best of all so far.
use Rattle.std.proofs.Common.{◌≡◌, ◌≢◌, ◌+◌, List, [], ◌∷◌, ◌++◌, Some, None, refl, ap, sym, ◌∙◌, subst, inl, inr, append_assoc, ℕ, if◌then◌else◌, arith, Result, Ok, Err, OnOk, Option, IfSome, true, false}
use Rattle.std.specs.declared.cmp.Ordering.{Ordering}
use Rattle.std.specs.declared.cmp.Ordering.TheVariants.{Less, Equal, Greater}
use Rattle.std.specs.Ordering.{is_lt, match_ordering}
use Rattle.std.specs.Option.{MatchOption}
use Rattle.std.specs.List.{Contains, AllByRecursion}
use Rattle.std.specs.Map.{lookup, keys_of}
use Rattle.std.specs.List.Sorted.{IsStrictlySortedBy, IsPermutation}
use Rattle.std.specs.BTreeMap.{is_at, insert_entry}
use Rattle.std.proofs.lemmas.List.Elements.{Contains-append_left, Contains-append_right, Contains-append_cases}
use Rattle.std.proofs.lemmas.List.Sorted.{Contains-permutation, IsPermutation-sym}
use Rattle.tws_file.specs.declared.key.Key.{Key}
use Rattle.tws_file.specs.Text.{Solution, Record, pad, set, bare, solution, IsRecord, body_of}
use Rattle.tws_best.specs.Rank.{rank_of, rank_cmp, IsBelow}
use Rattle.tws_best.specs.Best.{KeyedBody, IsKeyedBody, IsBestOf, IsRising, AreCollected, key_cmp, keyed_body, solved_in}
use Rattle.tws_best.specs.Bodies.{BodyPair, keyed_bodies}
use Rattle.tws_best.specs.Choice.{placed, better_of, put_in}
use Rattle.tws_best.specs.Steps.{IsHeld, IsBetter, Stays, Enters, Takes, IsTaken}
use Rattle.tws_best.proofs.Members.{Contains-none, Contains-here, Contains-there, Contains-cases, all_at, all_from}
use Rattle.tws_best.proofs.Orders.{key_tie, no_better, less_not}
use Rattle.tws_best.proofs.Rising.{one_entry}
use Rattle.tws_best.proofs.Bests.{widen, same_best, own_best, held_itself, held_by_best}
use Rattle.tws_best.proofs.Sets.{best_of_best}
use Rattle.tws_best.proofs.Choices.{put_best, is_less}
use Rattle.tws_best.proofs.Found.{entry, found, not_found, rising_of}

-- ---- whether a solution enters

-- what is found for the key is the only entry that has it
pub held_by_found : (ps : List BodyPair) (k : Key) (b old : List ℕ) → lookup (is_at (key_cmp k)) ps ≡ Some old →
    (IsBelow (rank_of b) (rank_of old) → ⊥) → IsHeld (Contains (keyed_bodies ps)) (entry k b)
held_by_found ps k b old is not = record { holder = entry k old; member = found k old ps is; same = refl; no_worse = not }

-- a better body than the one found is better than any with its key
pub better_than_found : (ps : List BodyPair) (k : Key) (b old : List ℕ) → IsRising (keyed_bodies ps) →
    lookup (is_at (key_cmp k)) ps ≡ Some old → IsBelow (rank_of b) (rank_of old) → IsBetter (keyed_bodies ps) (entry k b)
better_than_found ps k b old rising is below = λ e has same.
    let one = one_entry (keyed_bodies ps) (entry k old) e rising (found k old ps is) has (sym same) in
    subst (λ (f : KeyedBody). IsBelow (rank_of b) (rank_of f.body)) one below

-- if no body is found for a key, any body is better than any with its key
pub better_than_none : (ps : List BodyPair) (k : Key) (b : List ℕ) → lookup (is_at (key_cmp k)) ps ≡ None → IsBetter (keyed_bodies ps) (entry k b)
better_than_none ps k b none = λ e has same. absurd (not_found k ps none e has same)

-- ---- the map after it

-- the better of two takes the other's place
chosen : (x e : KeyedBody) (es : List KeyedBody) → IsBelow (rank_of x.body) (rank_of e.body) → better_of x e ∷ es ≡ x ∷ es
chosen x e es below = ap (λ (o : Ordering). (if is_lt o then x else e) ∷ es) below

put_at : (o : Ordering) (k : Key) (b : List ℕ) (p : BodyPair) (ps : List BodyPair) → o ≡ key_cmp k p.0 →
    IsBetter (keyed_bodies (p ∷ ps)) (entry k b) →
    put_in (entry k b) (keyed_bodies ps) ≡ keyed_bodies (insert_entry key_cmp ps k b) →
    placed o (entry k b) (entry p.0 p.1) (keyed_bodies ps) (put_in (entry k b) (keyed_bodies ps)) ≡ keyed_bodies
    (match_ordering o ((k, b) ∷ (p ∷ ps)) ((p.0, b) ∷ ps) (p ∷ insert_entry key_cmp ps k b))
put_at Less k b p ps is better rest = refl
put_at Equal k b p ps is better rest =
    let tie : k ≡ p.0 = key_tie k p.0 (sym is) in
    chosen (entry k b) (entry p.0 p.1) (keyed_bodies ps) (better (entry p.0 p.1) (Contains-here (entry p.0 p.1) (keyed_bodies ps)) (sym tie))
    ∙ ap (λ j. entry j b ∷ keyed_bodies ps) tie
put_at Greater k b p ps is better rest = ap (λ (es : List KeyedBody). entry p.0 p.1 ∷ es) rest

-- what is better than all with its key takes their place
put_inserts : (k : Key) (b : List ℕ) (ps : List BodyPair) → IsBetter (keyed_bodies ps) (entry k b) → put_in (entry k b) (keyed_bodies ps) ≡ keyed_bodies (insert_entry key_cmp ps k b)
put_inserts k b [] better = refl
put_inserts k b (p ∷ ps) better =
    let rest = put_inserts k b ps (λ e has. better e (Contains-there (entry p.0 p.1) (keyed_bodies ps) e has)) in
    put_at (key_cmp k p.0) k b p ps refl better rest

-- a solution's key and body are its entry
pub entry_same : (s : Solution) (key : Key) (b : List ℕ) → key ≡ s.key → b ≡ body_of (solution s) → entry key b ≡ keyed_body s
entry_same s key b key-is b-is = ap (λ (x : List ℕ). entry key x) b-is ∙ ap (λ (k : Key). entry k (body_of (solution s))) key-is

-- it is better than what its key has, if that has anything
pub better_by : (ps : List BodyPair) (k : Key) (b : List ℕ) (old : Option (List ℕ)) → old ≡ lookup (is_at (key_cmp k)) ps
    → IfSome old (λ (was : List ℕ). is_lt (rank_cmp (rank_of b) (rank_of was)) ≡ true) → IsRising (keyed_bodies ps) → IsBetter (keyed_bodies ps) (entry k b)
better_by ps k b None had better rising = better_than_none ps k b (sym had)
better_by ps k b (Some was) had better rising = better_than_found ps k b was rising (sym had) (is_less (rank_cmp (rank_of b) (rank_of was)) better)

-- its key has something that is no worse
pub held_by : (ps : List BodyPair) (k : Key) (b : List ℕ) (found : Option (List ℕ)) → lookup (is_at (key_cmp k)) ps ≡ found
    → MatchOption found ⊥ (λ (was : List ℕ). is_lt (rank_cmp (rank_of b) (rank_of was)) ≡ false) → IsHeld (Contains (keyed_bodies ps)) (entry k b)
held_by ps k b None is held = absurd held
held_by ps k b (Some was) is held = held_by_found ps k b was is (less_not (rank_cmp (rank_of b) (rank_of was)) held)

-- a better solution that was inserted has entered
pub enters_by : {E : Type 0} (r : Result (Unit {0}) E) (k : Key) (b : List ℕ) (ps new : List BodyPair) (was is : ℕ) →
    (IsRising (keyed_bodies ps) → IsBetter (keyed_bodies ps) (entry k b)) → OnOk r (new ≡ insert_entry key_cmp ps k b) →
    OnOk r (is ≡ was + 1) → OnOk r (IsStrictlySortedBy key_cmp (keys_of ps)) → OnOk r (Takes (entry k b) ps new was is)
enters_by (Ok u) k b ps new was is better inserted count sorted = inr (record { better = better (rising_of ps sorted); inserted = inserted; some = λ none. omega arith })
enters_by (Err e) k b ps new was is better inserted count sorted = tt

-- ---- the best so far

-- the best with one more entry at the end of the list
pushed_best : (x : KeyedBody) (es new : List KeyedBody) → IsBestOf (Contains (x ∷ es)) new → IsBestOf (Contains (es ++ x ∷ [])) new
pushed_best x es new of =
    same_best (Contains (x ∷ es)) (Contains (es ++ x ∷ [])) new of
    (λ e has. elim (Contains-cases x es e has) [
      | inl is ↦ subst (Contains (es ++ x ∷ [])) is (Contains-append_right es (x ∷ []) x (Contains-here x []))
      | inr later ↦ Contains-append_left es (x ∷ []) e later
    ])
    (λ e has. elim (Contains-append_cases es (x ∷ []) e has) [
      | inl first ↦ Contains-there x es e first
      | inr second ↦ elim (Contains-cases x [] e second) [
        | inl is ↦ subst (Contains (x ∷ es)) is (Contains-here x es)
        | inr none ↦ absurd (Contains-none e none)
      ]
    ])

-- if an entry is no better than what is there, the list stays the best
held_best : (x : KeyedBody) (es : List KeyedBody) → IsRising es → IsHeld (Contains es) x → IsBestOf (Contains (es ++ x ∷ [])) es
held_best x es rising held =
    widen (Contains es) (Contains (es ++ x ∷ [])) es (own_best es rising)
    (λ e has. Contains-append_left es (x ∷ []) e has)
    (λ f has. elim (Contains-append_cases es (x ∷ []) f has) [
      | inl first ↦ held_itself (Contains es) f first
      | inr second ↦ elim (Contains-cases x [] f second) [
        | inl is ↦ subst (λ (g : KeyedBody). IsHeld (Contains es) g) is held
        | inr none ↦ absurd (Contains-none f none)
      ]
    ])

module _ (first so_far : List KeyedBody) (x : KeyedBody) (es new : List KeyedBody) (of : IsBestOf (Contains (first ++ so_far)) es) where
  -- with one more solution it is still the best of all
  with_more : IsBestOf (Contains (es ++ x ∷ [])) new → IsBestOf (Contains (first ++ (so_far ++ x ∷ []))) new
  with_more next =
      subst (λ (all : List KeyedBody). IsBestOf (Contains all) new) (append_assoc first so_far (x ∷ []))
      (best_of_best (first ++ so_far) (x ∷ []) es new of next)

  -- what is better than the best so far was not there at first
  differs : IsBetter es x → IsBestOf (Contains (es ++ x ∷ [])) new → new ≢ first
  differs better next same =
      let k = next.every x (Contains-append_right es (x ∷ []) x (Contains-here x [])) in
      let early : Contains first k.entry = subst (λ (all : List KeyedBody). Contains all k.entry) same k.present in
      let h = held_by_best (Contains (first ++ so_far)) es of k.entry (Contains-append_left first so_far k.entry early) in
      no_better (rank_of h.holder.body) (rank_of k.entry.body) (rank_of x.body) h.no_worse
      ((next.best k.entry k.present).least x (Contains-append_right es (x ∷ []) x (Contains-here x [])) (sym k.key_is))
      (better h.holder h.member (h.same ∙ k.key_is))

-- a solution that is no better changes nothing
stays : (first : List BodyPair) (so_far : List KeyedBody) (x : KeyedBody) (old new : List BodyPair) (was is : ℕ) →
    IsTaken first so_far old was → Stays x old new was is → IsTaken first (so_far ++ x ∷ []) new is
stays first so_far x old new was is t s =
    let best = with_more (keyed_bodies first) so_far x (keyed_bodies old) (keyed_bodies old) t.best (held_best x (keyed_bodies old) t.best.rising s.held) in
    let same = ap keyed_bodies s.same in
    record {
      best = subst (λ (es : List KeyedBody). IsBestOf (Contains (keyed_bodies first ++ (so_far ++ x ∷ []))) es) (sym same) best;
      changed = elim t.changed [
        | inl none ↦ inl (s.count ∙ none)
        | inr other ↦ inr (λ e. other (sym same ∙ e))
      ];
    }

-- a better one takes its place
enters : (first : List BodyPair) (so_far : List KeyedBody) (x : KeyedBody) (old new : List BodyPair) (was is : ℕ) →
    IsTaken first so_far old was → Enters x old new is → IsTaken first (so_far ++ x ∷ []) new is
enters first so_far x old new was is t s =
    let inserted = put_inserts x.key x.body old s.better ∙ ap keyed_bodies (sym s.inserted) in
    let put : IsBestOf (Contains (x ∷ keyed_bodies old)) (keyed_bodies new) =
    subst (λ (es : List KeyedBody). IsBestOf (Contains (x ∷ keyed_bodies old)) es) inserted
    (put_best x (keyed_bodies old) t.best.rising) in
    let next = pushed_best x (keyed_bodies old) (keyed_bodies new) put in
    record {
      best = with_more (keyed_bodies first) so_far x (keyed_bodies old) (keyed_bodies new) t.best next;
      changed = inr (differs (keyed_bodies first) so_far x (keyed_bodies old) (keyed_bodies new) t.best s.better next);
    }

-- after one more solution, better or not, it still holds
pub taken_more : (first : List BodyPair) (so_far : List KeyedBody) (x : KeyedBody) (old new : List BodyPair) (was is : ℕ) →
    IsTaken first so_far old was → Takes x old new was is → IsTaken first (so_far ++ x ∷ []) new is
taken_more first so_far x old new was is t takes = elim takes [
  | inl s ↦ stays first so_far x old new was is t s
  | inr s ↦ enters first so_far x old new was is t s
]

-- ---- all solutions, in whatever order

-- what is best of the bodies before and of the solutions does not depend on their order
pub best_moved : (old solved moved new : List KeyedBody) → IsPermutation solved moved → IsBestOf (Contains (old ++ moved)) new → IsBestOf (Contains (old ++ solved)) new
best_moved old solved moved new order of =
    same_best (Contains (old ++ moved)) (Contains (old ++ solved)) new of
    (λ e has. elim (Contains-append_cases old moved e has) [
      | inl first ↦ Contains-append_left old solved e first
      | inr second ↦ Contains-append_right old solved e (Contains-permutation moved solved e (IsPermutation-sym solved moved order) second)
    ])
    (λ e has. elim (Contains-append_cases old solved e has) [
      | inl first ↦ Contains-append_left old moved e first
      | inr second ↦ Contains-append_right old moved e (Contains-permutation solved moved e order second)
    ])

-- ---- what a collection has are solutions, with each key only once

-- the solutions among records are solutions
pub solved_entries : (rs : List Record) → AllByRecursion IsRecord rs → AllByRecursion IsKeyedBody (solved_in rs)
solved_entries [] fits = tt
solved_entries (pad ∷ rs) fits = solved_entries rs fits.1
solved_entries (set rest ∷ rs) fits = solved_entries rs fits.1
solved_entries (bare key ∷ rs) fits = solved_entries rs fits.1
solved_entries (solution s ∷ rs) fits = (record { solved = s; fits = fits.0; is = refl }, solved_entries rs fits.1)

-- the best of two lists of what a collection can have, a collection can have
pub best_collected : (old more new : List KeyedBody) → AreCollected old → AllByRecursion IsKeyedBody more → IsBestOf (Contains (old ++ more)) new → AreCollected new
best_collected old more new collected fits of = record {
  rising = of.rising;
  solved = all_from IsKeyedBody new (λ e has. elim (Contains-append_cases old more e (of.best e has).member) [
    | inl first ↦ all_at IsKeyedBody old e collected.solved first
    | inr second ↦ all_at IsKeyedBody more e fits second
  ]);
}

-- Merging part after part, and going back.
use Rattle.std.proofs.Common.{◌≡◌, ◌≢◌, ◌↔◌, ◌==◌, ℕ, Bool, true, false, not, MatchBool, List, [], ◌∷◌, ◌++◌, length, Option, Result, Ok, Err, OnOk, OnErr, refl, ap, sym, ◌∙◌, subst, inl, inr, append-nil, append_assoc}
use Rattle.std.specs.List.{Contains, AllByRecursion}
use Rattle.std.proofs.lemmas.Bool.{true≢false}
use Rattle.std.proofs.lemmas.Map.Views.{exact_unsigned_eq}
use Rattle.tws_file.specs.declared.key.Key.{Key}
use Rattle.tws_file.specs.declared.«ruleset».Ruleset.{Ruleset}
use Rattle.tws_best.specs.Best.{KeyedBody, IsKeyedBody, Collected, AreCollected, IsBestOf}
use Rattle.tws_best.specs.Bodies.{BodyPair, keyed_bodies, pairs_of}
use Rattle.tws_best.specs.Steps.{back_to, Undoes, undone, IsTaken, LeadsBack}
use Rattle.tws_best.proofs.Members.{none_from_length}
use Rattle.tws_best.proofs.Bests.{own_best}
use Rattle.tws_best.proofs.Sets.{best_of_all}
use Rattle.tws_best.proofs.Taking.{best_collected}

-- ---- entries and pairs

pub pairs_back : (ps : List BodyPair) → pairs_of (keyed_bodies ps) ≡ ps
pairs_back [] = refl
pairs_back (p ∷ ps) = ap (λ (qs : List BodyPair). p ∷ qs) (pairs_back ps)

pub keyed_back : (es : List KeyedBody) → keyed_bodies (pairs_of es) ≡ es
keyed_back [] = refl
keyed_back (e ∷ es) = ap (λ (fs : List KeyedBody). e ∷ fs) (keyed_back es)

-- the entries of a collection, as the pairs of its map
pub own_pairs : (c : Collected) (rules : Ruleset) (ps : List BodyPair) → record { «ruleset» = rules; entries = keyed_bodies ps } ≡ c → pairs_of c.entries ≡ ps
own_pairs c rules ps view = ap (λ (d : Collected). pairs_of d.entries) (sym view) ∙ pairs_back ps

pub same_collected : (c d : Collected) → c.ruleset ≡ d.ruleset → c.entries ≡ d.entries → c ≡ d
same_collected c d rules entries =
    let make : Ruleset → List KeyedBody → Collected = λ k es. record { «ruleset» = k; entries = es } in
    let whole : make c.ruleset c.entries ≡ make d.ruleset d.entries = cc in
    whole

-- the pairs of a collection's entries lead to them
pub same_pairs : (c d : Collected) → c.ruleset ≡ d.ruleset → pairs_of c.entries ≡ pairs_of d.entries → c ≡ d
same_pairs c d rules pairs = same_collected c d rules (sym (keyed_back c.entries) ∙ ap keyed_bodies pairs ∙ keyed_back d.entries)

-- ---- going back

-- there is only one first
pub undoes_one : (first : List BodyPair) (ds : List (Key × Option (List ℕ))) (now : List BodyPair) → Undoes first ds now → undone ds now ≡ first
undoes_one first [] now u = u
undoes_one first (d ∷ ds) now u = ap (back_to d.0 d.1) (undoes_one u.0 ds now u.1) ∙ u.3

-- nothing has changed
pub begins : (ps : List BodyPair) → AreCollected (keyed_bodies ps) → LeadsBack ps [] ps
begins ps collected = record {
  collected = collected;
  undo = refl;
  solved = [];
  best = subst (λ (es : List KeyedBody). IsBestOf (Contains es) (keyed_bodies ps)) (sym (append-nil (keyed_bodies ps))) (own_best (keyed_bodies ps) collected.rising);
  changed = inl refl;
}

pub begins_with : (c : Collected) (rules : Ruleset) (ps : List BodyPair) (ds : List (Key × Option (List ℕ))) →
    record { «ruleset» = rules; entries = keyed_bodies ps } ≡ c → AreCollected (keyed_bodies ps) → ds ≡ [] →
    LeadsBack (pairs_of c.entries) ds (pairs_of c.entries)
begins_with c rules ps ds view collected none =
    subst (λ (qs : List BodyPair). LeadsBack qs ds qs) (sym (own_pairs c rules ps view)) (subst (λ (cs : List (Key × Option (List ℕ))). LeadsBack ps cs ps) (sym none) (begins ps collected))

-- everything was undone
pub gone_back : (first : List BodyPair) (ds : List (Key × Option (List ℕ))) (was now : List BodyPair) → LeadsBack first ds was → now ≡ first → LeadsBack first [] now
gone_back first ds was now l is = subst (λ (ps : List BodyPair). LeadsBack first [] ps) (sym is) (begins first l.collected)

-- ---- more solutions

pub taken_so_far : (first : List BodyPair) (ds : List (Key × Option (List ℕ))) (now : List BodyPair) → (l : LeadsBack first ds now) → IsTaken first l.solved now (length ds)
taken_so_far first ds now l = record {
  best = l.best;
  changed = elim l.changed [
    | inl none ↦ inl (ap length none)
    | inr other ↦ inr other
  ];
}

pub leads_on : (first : List BodyPair) (solved : List KeyedBody) (ds : List (Key × Option (List ℕ))) (now : List BodyPair) →
    AreCollected (keyed_bodies first) → Undoes first ds now → IsTaken first solved now (length ds) → LeadsBack first ds now
leads_on first solved ds now collected undo t = record {
  collected = collected;
  undo = undo;
  solved = solved;
  best = t.best;
  changed = elim t.changed [
    | inl none ↦ inl (none_from_length ds none)
    | inr other ↦ inr other
  ];
}

-- the best of what was there and of more solutions
pub best_since : (first : List BodyPair) (before more : List KeyedBody) (old new : List BodyPair) (was is : ℕ) →
    IsTaken first before old was → IsTaken first (before ++ more) new is →
    IsBestOf (Contains (keyed_bodies old ++ more)) (keyed_bodies new)
best_since first before more old new was is t u =
    best_of_all (keyed_bodies first ++ before) more (keyed_bodies old) (keyed_bodies new) t.best
    (subst (λ (es : List KeyedBody). IsBestOf (Contains es) (keyed_bodies new)) (sym (append_assoc (keyed_bodies first) before more)) u.best)

-- what a collection has now it can have, whether the solutions were added or all was undone
pub fits_by : {E : Type 0} (r : Result (Unit {0}) E) (first : List BodyPair) (ds : List (Key × Option (List ℕ)))
    (old new : List BodyPair) (more : List KeyedBody) → AreCollected (keyed_bodies old) → AllByRecursion IsKeyedBody more →
    OnOk r (IsBestOf (Contains (keyed_bodies old ++ more)) (keyed_bodies new)) → OnErr r (ds ≡ []) → LeadsBack first ds new →
    AreCollected (keyed_bodies new)
fits_by (Ok done) first ds old new more collected fits best none l = best_collected (keyed_bodies old) more (keyed_bodies new) collected fits best
fits_by (Err e) first ds old new more collected fits best none l =
    let is : new ≡ first = subst (λ (cs : List (Key × Option (List ℕ))). Undoes first cs new) none l.undo in
    subst (λ (ps : List BodyPair). AreCollected (keyed_bodies ps)) (sym is) l.collected

-- nothing was noted exactly if the collection has not changed
pub none_since : (n : ℕ) (ds : List (Key × Option (List ℕ))) (c d : Collected) → length ds ≡ n → c.ruleset ≡ d.ruleset →
    LeadsBack (pairs_of d.entries) ds (pairs_of c.entries) → (n ≡ 0) ↔ (c ≡ d)
none_since n ds c d long rules l = (
  (λ is. let none = none_from_length ds (long ∙ is) in same_pairs c d rules (subst (λ (cs : List (Key × Option (List ℕ))). Undoes (pairs_of d.entries) cs (pairs_of c.entries)) none l.undo)),
  (λ same. elim l.changed [
    | inl none ↦ sym long ∙ ap length none
    | inr other ↦ absurd (other (ap (λ (e : Collected). keyed_bodies (pairs_of e.entries)) same))
  ]),
)

-- the same by a test
pub changed_since : (b : Bool) (n : ℕ) (ds : List (Key × Option (List ℕ))) (c d : Collected) → b ≡ (n == 0) → length ds ≡ n →
    c.ruleset ≡ d.ruleset → LeadsBack (pairs_of d.entries) ds (pairs_of c.entries) → MatchBool (not b) (c ≢ d) (c ≡ d)
changed_since true n ds c d is long rules l = (none_since n ds c d long rules l).0 (exact_unsigned_eq n 0 (sym is))
changed_since false n ds c d is long rules l = λ same. true≢false (ap (λ (m : ℕ). m == 0) (sym ((none_since n ds c d long rules l).1 same)) ∙ sym is)

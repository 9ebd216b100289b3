-- What follows from being the best of a set.
use Rattle.std.proofs.Common.{◌≡◌, ℕ, List, refl, sym, ◌∙◌, subst}
use Rattle.std.specs.declared.cmp.Ordering.{Ordering}
use Rattle.std.specs.declared.cmp.Ordering.TheVariants.{Less, Equal, Greater}
use Rattle.std.specs.List.{Contains}
use Rattle.tws_file.specs.declared.key.Key.{Key}
use Rattle.tws_best.specs.Rank.{rank_of, rank_cmp, IsBelow}
use Rattle.tws_best.specs.RankOrder.{rank_total}
use Rattle.tws_best.specs.Best.{KeyedBody, IsBest, IsBestOf, IsRising}
use Rattle.tws_best.specs.Steps.{IsHeld}
use Rattle.tws_best.proofs.Orders.{rank_tie, rank_itself, no_better}
use Rattle.tws_best.proofs.Rising.{one_entry, same_entries}

-- two bodies of which neither is better are equal
pub even_by : (a b : List ℕ) (r : Ordering) → r ≡ rank_cmp (rank_of a) (rank_of b) → (IsBelow (rank_of a) (rank_of b) → ⊥) → (IsBelow (rank_of b) (rank_of a) → ⊥) → a ≡ b
even_by a b Less is up down = absurd (up (sym is))
even_by a b Equal is up down = rank_tie a b (sym is)
even_by a b Greater is up down = let back = rank_total.antisymm (rank_of b) (rank_of a) in absurd (down (rw (← is) at back))

-- of two bodies, if neither is better they are equal
even : (a b : List ℕ) → (IsBelow (rank_of a) (rank_of b) → ⊥) → (IsBelow (rank_of b) (rank_of a) → ⊥) → a ≡ b
even a b up down = even_by a b (rank_cmp (rank_of a) (rank_of b)) refl up down

-- two entries of one key and one body
pub entry_is : (e f : KeyedBody) → e.key ≡ f.key → e.body ≡ f.body → e ≡ f
entry_is e f key body =
    let make : Key → List ℕ → KeyedBody = λ k b. record { key = k; body = b } in
    let whole : make e.key e.body ≡ make f.key f.body = cc in
    whole

-- at most one is best for a key
pub one_best : (IsMember : KeyedBody → Type 0) (e f : KeyedBody) → IsBest IsMember e → IsBest IsMember f → e.key ≡ f.key → e ≡ f
one_best IsMember e f best_e best_f same =
    entry_is e f same (even e.body f.body (best_f.least e best_e.member same) (best_e.least f best_f.member (sym same)))

-- what is best of a set is in its collection
pub best_present : (IsMember : KeyedBody → Type 0) (es : List KeyedBody) (e : KeyedBody) → IsBestOf IsMember es → IsBest IsMember e → Contains es e
best_present IsMember es e of best =
    let of_key = of.every e best.member in
    subst (Contains es) (one_best IsMember of_key.entry e (of.best of_key.entry of_key.present) best of_key.key_is) of_key.present

-- a set has only one collection of the best
pub one_map : (IsMember : KeyedBody → Type 0) (ds es : List KeyedBody) → IsBestOf IsMember ds → IsBestOf IsMember es → ds ≡ es
one_map IsMember ds es of_d of_e =
    same_entries ds es of_d.rising of_e.rising (λ f has. best_present IsMember es f of_e (of_d.best f has)) (λ f has. best_present IsMember ds f of_d (of_e.best f has))

-- ---- sets that have the same best

-- a set is as good as a larger one, if for each member of the larger one it has one with the same key that is no worse
pub widen : (IsFew IsMany : KeyedBody → Type 0) (es : List KeyedBody) → IsBestOf IsFew es → ((e : KeyedBody) → IsFew e → IsMany e) → ((f : KeyedBody) → IsMany f → IsHeld IsFew f) → IsBestOf IsMany es
widen IsFew IsMany es of more held = record {
  rising = of.rising;
  best = λ e has. record {
    member = more e (of.best e has).member;
    least = λ f many same.
        let h = held f many in
        no_better (rank_of e.body) (rank_of h.holder.body) (rank_of f.body) ((of.best e has).least h.holder h.member (h.same ∙ same)) h.no_worse;
  };
  every = λ f many.
      let h = held f many in
      let k = of.every h.holder h.member in
      record { entry = k.entry; present = k.present; key_is = k.key_is ∙ h.same };
}

-- each entry holds itself
pub held_itself : (IsMember : KeyedBody → Type 0) (e : KeyedBody) → IsMember e → IsHeld IsMember e
held_itself IsMember e member = record { holder = e; member = member; same = refl; no_worse = rank_itself (rank_of e.body) }

-- the best of a set hold each of its members
pub held_by_best : (IsMember : KeyedBody → Type 0) (es : List KeyedBody) → IsBestOf IsMember es → (f : KeyedBody) → IsMember f → IsHeld (Contains es) f
held_by_best IsMember es of f member =
    let k = of.every f member in
    record { holder = k.entry; member = k.present; same = k.key_is; no_worse = (of.best k.entry k.present).least f member (sym k.key_is) }

-- a larger set holds what a smaller one does
pub held_in : (IsFew IsMany : KeyedBody → Type 0) → ((e : KeyedBody) → IsFew e → IsMany e) → (f : KeyedBody) → IsHeld IsFew f → IsHeld IsMany f
held_in IsFew IsMany more f h = record { holder = h.holder; member = more h.holder h.member; same = h.same; no_worse = h.no_worse }

-- sets with the same members have the same best
pub same_best : (IsFirst IsSecond : KeyedBody → Type 0) (es : List KeyedBody) → IsBestOf IsFirst es →
    ((e : KeyedBody) → IsFirst e → IsSecond e) → ((e : KeyedBody) → IsSecond e → IsFirst e) → IsBestOf IsSecond es
same_best IsFirst IsSecond es of there back = widen IsFirst IsSecond es of there (λ f second. held_itself IsFirst f (back f second))

-- a collection is its own best
pub own_best : (es : List KeyedBody) → IsRising es → IsBestOf (Contains es) es
own_best es rising = record {
  rising = rising;
  best = λ e has. record {
    member = has;
    least = λ f also same below. rank_itself (rank_of e.body)
        (subst (λ (x : KeyedBody). IsBelow (rank_of x.body) (rank_of e.body)) (one_entry es f e rising also has same) below);
  };
  every = λ f has. record { entry = f; present = has; key_is = refl };
}

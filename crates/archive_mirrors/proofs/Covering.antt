-- Sets of texts of which one is as good as the other: for each solution in one, the other has one with the same key that is
-- no worse. They have the same collection.
use Rattle.std.proofs.Common.{◌≡◌, ℕ, List, ◌++◌, refl, sym, ◌∙◌, subst, inl, inr}
use Rattle.std.specs.List.{Contains}
use Rattle.std.proofs.lemmas.List.Elements.{Contains-append_left, Contains-append_right, Contains-append_cases}
use Rattle.tws_file.specs.declared.key.Key.{Key}
use Rattle.tws_file.specs.declared.«ruleset».Ruleset.{Ruleset}
use Rattle.tws_best.specs.Rank.{rank_of, rank_cmp, IsBelow}
use Rattle.tws_best.specs.Best.{KeyedBody, IsBestOf, IsSolutionIn, IsCollectionOf, Collected}
use Rattle.tws_best.specs.Steps.{IsHeld}
use Rattle.tws_best.proofs.Orders.{no_better}
use Rattle.tws_best.proofs.Bests.{even_by, entry_is, held_itself, held_by_best, held_in}

-- ---- any sets

-- for each member of the second set, the first has one with the same key that is no worse
abbrev pub Holds : (IsFirst IsSecond : KeyedBody → Type 0) → Type 0
Holds IsFirst IsSecond = (f : KeyedBody) → IsSecond f → IsHeld IsFirst f

pub holds_then : (IsFirst IsSecond IsThird : KeyedBody → Type 0) → Holds IsFirst IsSecond → Holds IsSecond IsThird → Holds IsFirst IsThird
holds_then IsFirst IsSecond IsThird first second f third =
    let h = second f third in
    let g = first h.holder h.member in
    record {
      holder = g.holder;
      member = g.member;
      same = g.same ∙ h.same;
      no_worse = no_better (rank_of g.holder.body) (rank_of h.holder.body) (rank_of f.body) g.no_worse h.no_worse;
    }

-- sets that hold one another have the same best
pub same_best : (IsFirst IsSecond : KeyedBody → Type 0) (es : List KeyedBody) → Holds IsFirst IsSecond → Holds IsSecond IsFirst →
    IsBestOf IsFirst es → IsBestOf IsSecond es
same_best IsFirst IsSecond es there back of = record {
  rising = of.rising;
  best = λ e has.
      let b = of.best e has in
      let y = back e b.member in
      let x = there y.holder y.member in
      let up : IsBelow (rank_of y.holder.body) (rank_of e.body) → ⊥ =
      no_better (rank_of e.body) (rank_of x.holder.body) (rank_of y.holder.body) (b.least x.holder x.member (x.same ∙ y.same)) x.no_worse in
      record {
        member = subst IsSecond
            (entry_is y.holder e y.same (even_by y.holder.body e.body (rank_cmp (rank_of y.holder.body) (rank_of e.body)) refl up y.no_worse)) y.member;
        least = λ f member same.
            let h = there f member in
            no_better (rank_of e.body) (rank_of h.holder.body) (rank_of f.body) (b.least h.holder h.member (h.same ∙ same)) h.no_worse;
      };
  every = λ f member.
      let h = there f member in
      let k = of.every h.holder h.member in
      record { entry = k.entry; present = k.present; key_is = k.key_is ∙ h.same };
}

-- sets with the same best hold one another
pub holds_best : (IsFirst IsSecond : KeyedBody → Type 0) (es : List KeyedBody) → IsBestOf IsFirst es → IsBestOf IsSecond es →
    Holds IsFirst IsSecond
holds_best IsFirst IsSecond es of_first of_second f member =
    held_in (Contains es) IsFirst (λ e has. (of_first.best e has).member) f (held_by_best IsSecond es of_second f member)

-- ---- texts

module _ (rules : Ruleset) where
  -- the texts have for each solution in the others one that is no worse
  abbrev pub Covers : (texts others : List (List ℕ)) → Type 0
  Covers texts others = Holds (IsSolutionIn rules texts) (IsSolutionIn rules others)

  -- all that some texts have, more have
  pub more_cover : (texts more : List (List ℕ)) → ((t : List ℕ) → Contains texts t → Contains more t) → Covers more texts
  more_cover texts more there f s =
      held_itself (IsSolutionIn rules more) f (record { text = s.text; among = there s.text s.among; file = s.file; is_text = s.is_text; present = s.present })

  pub covers_itself : (texts : List (List ℕ)) → Covers texts texts
  covers_itself texts = more_cover texts texts (λ t has. has)

  pub covers_then : (xs ys zs : List (List ℕ)) → Covers xs ys → Covers ys zs → Covers xs zs
  covers_then xs ys zs = holds_then (IsSolutionIn rules xs) (IsSolutionIn rules ys) (IsSolutionIn rules zs)

  pub left_covers : (xs ys : List (List ℕ)) → Covers (xs ++ ys) xs
  left_covers xs ys = more_cover xs (xs ++ ys) (λ t has. Contains-append_left xs ys t has)

  pub right_covers : (xs ys : List (List ℕ)) → Covers (xs ++ ys) ys
  right_covers xs ys = more_cover ys (xs ++ ys) (λ t has. Contains-append_right xs ys t has)

  -- what covers two lists covers both together
  pub covers_both : (xs ys zs : List (List ℕ)) → Covers xs ys → Covers xs zs → Covers xs (ys ++ zs)
  covers_both xs ys zs first second f s =
      elim (Contains-append_cases ys zs s.text s.among) [
        | inl left ↦ first f (record { text = s.text; among = left; file = s.file; is_text = s.is_text; present = s.present })
        | inr right ↦ second f (record { text = s.text; among = right; file = s.file; is_text = s.is_text; present = s.present })
      ]

  -- two lists of texts that cover one another
  abbrev pub AsGood : (texts others : List (List ℕ)) → Type 0
  AsGood texts others = Covers texts others × Covers others texts

  pub good_itself : (xs : List (List ℕ)) → AsGood xs xs
  good_itself xs = (covers_itself xs, covers_itself xs)

  pub good_back : (xs ys : List (List ℕ)) → AsGood xs ys → AsGood ys xs
  good_back xs ys good = (good.1, good.0)

  pub good_then : (xs ys zs : List (List ℕ)) → AsGood xs ys → AsGood ys zs → AsGood xs zs
  good_then xs ys zs first second = (covers_then xs ys zs first.0 second.0, covers_then zs ys xs second.1 first.1)

  covers_joined : (xs ys zs ws : List (List ℕ)) → Covers xs ys → Covers zs ws → Covers (xs ++ zs) (ys ++ ws)
  covers_joined xs ys zs ws first second =
      covers_both (xs ++ zs) ys ws (covers_then (xs ++ zs) xs ys (left_covers xs zs) first) (covers_then (xs ++ zs) zs ws (right_covers xs zs) second)

  pub good_joined : (xs ys zs ws : List (List ℕ)) → AsGood xs ys → AsGood zs ws → AsGood (xs ++ zs) (ys ++ ws)
  good_joined xs ys zs ws first second = (covers_joined xs ys zs ws first.0 second.0, covers_joined ys xs ws zs first.1 second.1)

  -- lists with the same members
  pub good_members : (xs ys : List (List ℕ)) → ((t : List ℕ) → Contains xs t → Contains ys t) →
      ((t : List ℕ) → Contains ys t → Contains xs t) → AsGood xs ys
  good_members xs ys there back = (more_cover ys xs back, more_cover xs ys there)

  -- texts that are as good have the same collection
  pub good_collection : (xs ys : List (List ℕ)) (c : Collected) → AsGood xs ys → IsCollectionOf rules xs c → IsCollectionOf rules ys c
  good_collection xs ys c good of = record {
    ruleset_is = of.ruleset_is;
    best = same_best (IsSolutionIn rules xs) (IsSolutionIn rules ys) c.entries good.0 good.1 of.best;
  }

  -- texts with the same collection are as good
  pub collection_good : (xs ys : List (List ℕ)) (c : Collected) → IsCollectionOf rules xs c → IsCollectionOf rules ys c → AsGood xs ys
  collection_good xs ys c of_xs of_ys = (
    holds_best (IsSolutionIn rules xs) (IsSolutionIn rules ys) c.entries of_xs.best of_ys.best,
    holds_best (IsSolutionIn rules ys) (IsSolutionIn rules xs) c.entries of_ys.best of_xs.best,
  )

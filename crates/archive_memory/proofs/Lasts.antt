-- The last entry of a keeper's list that was kept.
use Rattle.std.specs.Prelude.{◌≡◌, ℕ, zero, suc, ◌+◌, ◌<◌, Bool, true, false, ◌&&◌, List, [], ◌∷◌, length, drop, None, Some}
use Rattle.std.proofs.Common.{refl, sym, ap, ◌∙◌}
use Rattle.std.proofs.Math.ListN.{get_or}
use Rattle.std.proofs.lemmas.Bool.{true≢false}
use Rattle.std.proofs.lemmas.List.{at_drop_more}
use Rattle.tws_file.specs.declared.«ruleset».Ruleset.{Ruleset}
use Rattle.archive_table.specs.Keeper.{Keeping, same_ruleset, later_or, last_kept}

-- the last of the rest is the last of all
pub last_of_rest : (rules : Ruleset) (i : ℕ) (ks : List Keeping) (text : List ℕ) → last_kept rules (drop i ks) ≡ Some text → last_kept rules ks ≡ Some text
last_of_rest rules zero ks text h = h
last_of_rest rules (suc i) [] text h = h
last_of_rest rules (suc i) (k ∷ ks) text h = ap (λ o. later_or o (same_ruleset rules k.«ruleset») k.ok k.text) (last_of_rest rules i ks text h)

-- an entry of the ruleset that was kept, with none after it, is the last
by_both : (mine ok : Bool) (text : List ℕ) → (mine && ok) ≡ true → later_or None mine ok text ≡ Some text
by_both true true text h = refl
by_both true false text h = absurd (true≢false (sym h))
by_both false ok text h = absurd (true≢false (sym h))

-- an entry with none after it
pub last_at : (rules : Ruleset) (ks : List Keeping) (i : ℕ) (k : Keeping) → i < length ks → get_or ks i k ≡ k →
    last_kept rules (drop (i + 1) ks) ≡ None → (same_ruleset rules k.«ruleset» && k.ok) ≡ true → last_kept rules ks ≡ Some k.text
last_at rules ks i k within is none both =
    last_of_rest rules i ks k.text
    (at_drop_more (last_kept rules) ks i k within
    ∙ ap (λ (x : Keeping). last_kept rules (x ∷ drop (i + 1) ks)) is
    ∙ ap (λ o. later_or o (same_ruleset rules k.«ruleset») k.ok k.text) none
    ∙ by_both (same_ruleset rules k.«ruleset») k.ok k.text both)

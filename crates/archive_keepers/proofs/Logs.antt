-- What can be loaded by a log that grows.
use Rattle.std.specs.Prelude.{◌≡◌, ℕ, Bool, true, false, List, [], ◌∷◌, ◌++◌, Option, None, Some, Result, Err}
use Rattle.std.proofs.Common.{refl, sym, ap, subst, ◌∙◌}
use Rattle.std.specs.Option.{option_or}
use Rattle.tws_file.specs.declared.«ruleset».Ruleset.{Ruleset}
use Rattle.archive_table.specs.declared.keep_fault.KeepFault.{KeepFault}
use Rattle.archive_table.specs.declared.keep_fault.KeepFault.TheVariants.{Device}
use Rattle.archive_table.specs.Keeper.{Keeping, KeeperGrows, keeping, kept_by, last_kept, later_or, same_ruleset}
use Rattle.archive_keepers.specs.Limited.{LoadsSame}

later_or-or : (a b : Option (List ℕ)) (mine ok : Bool) (text : List ℕ) → later_or (option_or a b) mine ok text ≡ option_or a (later_or b mine ok text)
later_or-or None b mine ok text = refl
later_or-or (Some later) b mine ok text = refl

or_none : (a : Option (List ℕ)) → a ≡ option_or a None
or_none None = refl
or_none (Some text) = refl

-- the last that was kept is among the later entries, or else among those before
last_kept-append : (rules : Ruleset) (xs ys : List Keeping) → last_kept rules (xs ++ ys) ≡ option_or (last_kept rules ys) (last_kept rules xs)
last_kept-append rules [] ys = or_none (last_kept rules ys)
last_kept-append rules (k ∷ xs) ys =
    ap (λ o. later_or o (same_ruleset rules k.«ruleset») k.ok k.text) (last_kept-append rules xs ys)
    ∙ later_or-or (last_kept rules ys) (last_kept rules xs) (same_ruleset rules k.«ruleset») k.ok k.text

not_kept : (mine : Bool) (text : List ℕ) → later_or None mine false text ≡ None
not_kept true text = refl
not_kept false text = refl

-- an entry that was not kept is never the last that was
last_kept-refused : (rules : Ruleset) (xs : List Keeping) (of : Ruleset) (text : List ℕ) → last_kept rules (xs ++ keeping of text false ∷ []) ≡ last_kept rules xs
last_kept-refused rules xs of text =
    last_kept-append rules xs (keeping of text false ∷ [])
    ∙ ap (λ o. option_or o (last_kept rules xs)) (not_kept (same_ruleset rules of) text)

-- ---- a log and the one below

-- both have grown by the same entries
same_more : (entries : List Keeping) (below after : Option (List Keeping)) (added : List Keeping) → LoadsSame entries below → KeeperGrows below after added → LoadsSame (entries ++ added) after
same_more entries None None added same grows = tt
same_more entries None (Some after) added same grows = absurd grows
same_more entries (Some below) None added same grows = tt
same_more entries (Some below) (Some after) added same grows = λ rules.
    last_kept-append rules entries added
    ∙ ap (option_or (last_kept rules added)) (same rules)
    ∙ sym (last_kept-append rules below added)
    ∙ ap (last_kept rules) (sym grows)

-- one was refused, which the log below does not have
same_refused : (entries : List Keeping) (below : Option (List Keeping)) (of : Ruleset) (text : List ℕ) → LoadsSame entries below → LoadsSame (entries ++ keeping of text false ∷ []) below
same_refused entries None of text same = tt
same_refused entries (Some below) of text same = λ rules. last_kept-refused rules entries of text ∙ same rules

module _ (before mid after : List Keeping) (below now : Option (List Keeping)) (result : Result (Unit {0}) KeepFault) (rules : Ruleset) (text : List ℕ) where
  -- a keep that was refused here
  pub same_after_refusal : mid ≡ before → now ≡ below → result ≡ Err Device → after ≡ mid ++ kept_by result rules text → LoadsSame before below → LoadsSame after now
  same_after_refusal mid-is now-is refused after-is same =
      let entries : before ++ keeping rules text false ∷ [] ≡ after = cc in
      subst (LoadsSame after) (sym now-is) (subst (λ es. LoadsSame es below) entries (same_refused before below rules text same))

  -- a keep of the keeper below
  pub same_after_keep : (given : Result (Unit {0}) KeepFault) (grown : Option (List Keeping)) → mid ≡ before → now ≡ grown → result ≡ given → KeeperGrows below grown (kept_by given rules text) → after ≡ mid ++ kept_by result rules text → LoadsSame before below → LoadsSame after now
  same_after_keep given grown mid-is now-is result-is grows after-is same =
      let entries : before ++ kept_by given rules text ≡ after = cc in
      subst (LoadsSame after) (sym now-is) (subst (λ es. LoadsSame es grown) entries (same_more before below grown (kept_by given rules text) same grows))

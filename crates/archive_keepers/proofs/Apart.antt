-- The names of the archive's files are different ones.
use Rattle.std.proofs.Common.{◌≡◌, ◌≢◌, ℕ, Bool, true, false, List, refl}
use Rattle.std.specs.Str.{bytes_eq}
use Rattle.std.proofs.lemmas.Slice.Eq.{bytes_eq-Decides}
use Rattle.tws_file.specs.declared.«ruleset».Ruleset.{Ruleset}
use Rattle.tws_file.specs.declared.«ruleset».Ruleset.TheVariants.{Lynx, Ms}
use Rattle.archive_keepers.specs.Names.{kept_name, draft_name}

differ : (xs ys : List ℕ) → bytes_eq xs ys ≡ false → xs ≢ ys
differ xs ys apart is = not_both (bytes_eq xs ys) apart ((bytes_eq-Decides xs ys).1 is)
  where
    not_both : (b : Bool) → b ≡ false → b ≡ true → ⊥
    not_both true apart same = cc
    not_both false apart same = cc

pub kept_is_no_draft : (rules others : Ruleset) → kept_name rules ≢ draft_name others
kept_is_no_draft Lynx Lynx = differ _ _ refl
kept_is_no_draft Lynx Ms = differ _ _ refl
kept_is_no_draft Ms Lynx = differ _ _ refl
kept_is_no_draft Ms Ms = differ _ _ refl

pub drafts_differ : draft_name Lynx ≢ draft_name Ms
drafts_differ = differ _ _ refl

-- what holds of both drafts
pub both_drafts : (P : List ℕ → Type 0) → P (draft_name Lynx) → P (draft_name Ms) → (rules : Ruleset) → P (draft_name rules)
both_drafts P lynx ms Lynx = lynx
both_drafts P lynx ms Ms = ms

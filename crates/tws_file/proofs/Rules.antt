-- The ruleset of a file is in its fifth byte.
use Rattle.std.proofs.Common.{◌≡◌, ◌≢◌, ℕ, ◌≤◌, List, ◌∷◌, ◌++◌, length, take, drop, slice_index, Option, Some, None, IfSome, IfNone, refl, ap, sym, ◌∙◌, arith, length-append, length-take, take-append-drop}
use Rattle.std.specs.List.{flat_map}
use Rattle.std.proofs.Math.ListN.{get_or-append}
use Rattle.tws_file.specs.declared.«ruleset».Ruleset.{Ruleset}
use Rattle.tws_file.specs.declared.«ruleset».Ruleset.TheVariants.{Lynx, Ms}
use Rattle.tws_file.specs.Fields.{ruleset_code}
use Rattle.tws_file.specs.Text.{File, IsText, text_of, record_text, IsFile}

-- a header has eight bytes at least
pub text_long : (file : File) → IsFile file → 8 ≤ length (text_of file)
text_long file fits = omega (
  arith,
  fits.word_length,
  length-append file.word (length file.extra ∷ file.extra),
  length-append
      (file.word ++ length file.extra ∷ file.extra) (flat_map record_text file.records),
)

-- the fifth of the first bytes is the code of the ruleset
pub fifth : (file : File) (bytes start : List ℕ) (n : ℕ) → IsText bytes file → 5 ≤ n → start ≡ take n bytes → (5 ≤ length start) × (slice_index start 4 ≡ ruleset_code file.«ruleset»)
fifth file bytes start n text enough is =
    let long : 8 ≤ length bytes = omega (arith, ap length text.text, text_long file text.fits) in
    let reach : 5 ≤ length start = omega (arith, ap length is, length-take n bytes) in
    let whole : start ++ drop n bytes ≡ bytes = ap (λ (xs : List ℕ). xs ++ drop n bytes) is ∙ take-append-drop n bytes in
    let here = sym (get_or-append start (drop n bytes) 0 4 (omega arith)) in
    (reach, here ∙ ap (λ (xs : List ℕ). slice_index xs 4) (whole ∙ text.text))

-- a code has one ruleset
pub found_by : (found : Option Ruleset) (code : ℕ) (rules : Ruleset) → code ≡ ruleset_code rules →
    IfSome found (λ r. ruleset_code r ≡ code) → IfNone found ((code ≢ 1) × (code ≢ 2)) → found ≡ Some rules
found_by (Some Lynx) code Lynx is some none = refl
found_by (Some Ms) code Ms is some none = refl
found_by (Some Lynx) code Ms is some none = absurd (omega arith)
found_by (Some Ms) code Lynx is some none = absurd (omega arith)
found_by None code Lynx is some none = absurd (none.0 is)
found_by None code Ms is some none = absurd (none.1 is)

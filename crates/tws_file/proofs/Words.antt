-- Hexadecimal digits and letters as they are written.
use Rattle.std.proofs.lemmas.Bool.{and_parts}
use Rattle.std.proofs.Common.{◌≡◌, ℕ, ◌+◌, ◌-◌, ◌^◌, ◌<◌, true, false, List, [], ◌∷◌, ◌++◌, length, take, get_or, Option, Result, Ok, Err, MatchOption, MatchResult, IsAscii, IsUtf8, Bor, ap, sym, ◌∙◌, arith}
use Rattle.std.specs.List.{list_all}
use Rattle.std.specs.Result.{result_ok}
use Rattle.std.specs.Char.{is_ascii_alphabetic}
use Rattle.std.specs.Fmt.{digits, padded_integral, format_spec}
use Rattle.std.proofs.lemmas.Bool.Decides.{nat_tests}
use Rattle.std.proofs.lemmas.List.{flat_map_more, take_more}
use Rattle.std.proofs.lemmas.Str.{IsUtf8-from_ascii}
use Rattle.std.proofs.lemmas.Str.Ascii.{IsAscii-nil, IsAscii-cons}
use Rattle.std.proofs.lemmas.Fmt as fmt
use Rattle.tws_file.specs.Words.{hex, hex_byte}

-- ---- hexadecimal digits

-- one more byte
pub hex-more : (bytes : List ℕ) (i : ℕ) → i < length bytes → get_or bytes i 0 < 256 →
    hex (take i bytes) ++ padded_integral (format_spec 32 0 4 2 (2 ^ 64 - 1)) false [] (digits 16 false (get_or bytes i 0)) ≡ hex
    (take (i + 1) bytes)
hex-more bytes i inside fits =
    ap (λ (xs : List ℕ). hex (take i bytes) ++ xs) (fmt.hex_byte false (get_or bytes i 0) fits)
    ∙ flat_map_more hex_byte [] (take i bytes) (get_or bytes i 0)
    ∙ ap hex (sym (take_more bytes i 0 inside))

-- ---- letters

letter_is_ascii : (b : ℕ) → is_ascii_alphabetic b ≡ true → b < 128
letter_is_ascii b e = grind (arith, nat_tests)

-- a password of letters is ASCII text
letters_are_ascii : (bytes : List ℕ) → list_all is_ascii_alphabetic bytes ≡ true → IsAscii bytes
letters_are_ascii [] e = IsAscii-nil
letters_are_ascii (b ∷ bytes) e =
    let parts = and_parts (is_ascii_alphabetic b) (list_all is_ascii_alphabetic bytes) e in
    IsAscii-cons b bytes (letter_is_ascii b parts.0) (letters_are_ascii bytes parts.1)

-- letters are text
pub letters_as_text : {E : Type 0} (X : E → Type 0) (bytes : List ℕ) (r : Result (Bor (List ℕ)) E) (o : Option (Bor (List ℕ))) → list_all is_ascii_alphabetic bytes ≡ true
    → MatchResult r (λ s. (s.now ≡ bytes) × IsUtf8 bytes) (λ e. (IsUtf8 bytes → ⊥) × X e) → o ≡ result_ok r
    → MatchOption o (list_all is_ascii_alphabetic bytes ≡ false) (λ s. (list_all is_ascii_alphabetic bytes ≡ true) × (s.now ≡ bytes))
letters_as_text X bytes (Ok s) o all cases o-is = rw o-is (all, cases.0)
letters_as_text X bytes (Err e) o all cases o-is = absurd (cases.0 (IsUtf8-from_ascii bytes (letters_are_ascii bytes all)))

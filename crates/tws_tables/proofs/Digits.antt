-- Bytes as hexadecimal digits.
use Rattle.std.proofs.Common.{◌≡◌, ℕ, suc, ◌<◌, ◌/◌, ◌%◌, Bool, true, false, List, [], ◌∷◌, refl, arith}
use Rattle.std.specs.List.{list_any}
use Rattle.std.specs.Fmt.{digit_glyph}
use Rattle.std.proofs.lemmas.Bool.{agree_below, agree_below_at, or_from}
use Rattle.byte_output.specs.Bytes.{IsBytes}
use Rattle.tws_file.specs.Words.{hex}

-- what no hexadecimal digit is, no digits are
pub no_digits : (p : ℕ → Bool) → agree_below (λ d. p (digit_glyph false d)) (λ d. false) 16 ≡ true → (bytes : List ℕ) → IsBytes bytes → list_any p (hex bytes) ≡ false
no_digits p none [] fits = refl
no_digits p none (b ∷ bytes) fits =
    let small : b < 256 = fits 0 in
    let high : p (digit_glyph false (b / 16)) ≡ false = agree_below_at (λ d. p (digit_glyph false d)) (λ d. false) 16 (b / 16) none (omega (arith, small)) in
    let low : p (digit_glyph false (b % 16)) ≡ false = agree_below_at (λ d. p (digit_glyph false d)) (λ d. false) 16 (b % 16) none (omega (arith, small)) in
    or_from (p (digit_glyph false (b / 16))) _ high
    (or_from (p (digit_glyph false (b % 16))) (list_any p (hex bytes)) low (no_digits p none bytes (λ i. fits (suc i))))

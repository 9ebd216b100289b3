-- The digits of a password in a listing.
use Rattle.std.proofs.Common.{◌≡◌, ◌⊎◌, inl, inr, Option, Some, None, IfSome, IfNone, Result, Ok, ℕ, zero, suc, ◌/◌, ◌%◌, ◌<◌, true, false, List, [], ◌∷◌, length, take, drop, slice_index, nat_eq, refl, ap, sym, ◌∙◌, arith}
use lib.Pointwise.{pointwise}
use Rattle.std.proofs.lemmas.Bool.{and_parts, eqb-true}
use Rattle.std.specs.Fmt.{digit_glyph}
use Rattle.std.specs.List.{list_all}
use Rattle.std.specs.Char.{is_ascii_alphabetic}
use Rattle.byte_output.specs.Bytes.{IsBytes}
use Rattle.hex.specs.Hex.{encode_with, encode_lower, decode_sized, lower_digits}
use Rattle.hex.proofs.HexLemmas.{length-encode_with, decode_sized-encode_lower}
use Rattle.tws_file.specs.Words.{hex, password_text}
use Rattle.tws_compare.specs.Password.{IsShown}

-- a digit
glyph : (d : ℕ) → d < 16 → digit_glyph false d ≡ slice_index lower_digits d
glyph zero below = refl
glyph (suc zero) below = refl
glyph (suc (suc zero)) below = refl
glyph (suc (suc (suc zero))) below = refl
glyph (suc (suc (suc (suc zero)))) below = refl
glyph (suc (suc (suc (suc (suc zero))))) below = refl
glyph (suc (suc (suc (suc (suc (suc zero)))))) below = refl
glyph (suc (suc (suc (suc (suc (suc (suc zero))))))) below = refl
glyph (suc (suc (suc (suc (suc (suc (suc (suc zero)))))))) below = refl
glyph (suc (suc (suc (suc (suc (suc (suc (suc (suc zero))))))))) below = refl
glyph (suc (suc (suc (suc (suc (suc (suc (suc (suc (suc zero)))))))))) below = refl
glyph (suc (suc (suc (suc (suc (suc (suc (suc (suc (suc (suc zero))))))))))) below = refl
glyph (suc (suc (suc (suc (suc (suc (suc (suc (suc (suc (suc (suc zero)))))))))))) below = refl
glyph (suc (suc (suc (suc (suc (suc (suc (suc (suc (suc (suc (suc (suc zero))))))))))))) below = refl
glyph (suc (suc (suc (suc (suc (suc (suc (suc (suc (suc (suc (suc (suc (suc zero)))))))))))))) below = refl
glyph (suc (suc (suc (suc (suc (suc (suc (suc (suc (suc (suc (suc (suc (suc (suc zero))))))))))))))) below = refl
glyph (suc (suc (suc (suc (suc (suc (suc (suc (suc (suc (suc (suc (suc (suc (suc (suc d)))))))))))))))) below = absurd (omega (arith, below))

-- the digits of all bytes
pub hex_is : (bytes : List ℕ) → IsBytes bytes → hex bytes ≡ encode_lower bytes
unfolding encode_with
hex_is [] fits = refl
hex_is (b ∷ bytes) fits =
    let rest = hex_is bytes (λ i. fits (suc i)) in
    let here : b < 256 = fits 0 in
    let high = glyph (b / 16) (omega (arith, here)) in
    let low = glyph (b % 16) (omega arith) in
    ap (λ d. d ∷ (digit_glyph false (b % 16) ∷ hex bytes)) high ∙ ap (λ d. slice_index lower_digits (b / 16) ∷ (d ∷ hex bytes)) low ∙
    ap (λ ds. slice_index lower_digits (b / 16) ∷ (slice_index lower_digits (b % 16) ∷ ds)) rest

-- letters are shown as they are
pub letters_shown : (password : List ℕ) → list_all is_ascii_alphabetic password ≡ true → password_text password ≡ password
letters_shown password letters = rw letters refl

-- other bytes are shown as an x and their digits
pub others_shown : (password : List ℕ) → IsBytes password → list_all is_ascii_alphabetic password ≡ false → password_text password ≡ 120 ∷ encode_lower password
others_shown password fits others = rw others (ap (λ ds. 120 ∷ ds) (hex_is password fits))

-- the digits of four bytes are eight
pub eight : (password : List ℕ) → length password ≡ 4 → length (120 ∷ encode_lower password) ≡ 9
eight password four = omega (arith, length-encode_with lower_digits password, four)

-- what a text of digits decodes to
pub digits_decode : (digits password : List ℕ) → IsBytes password → length password ≡ 4 → digits ≡ encode_lower password → decode_sized digits 4 ≡ Ok password
digits_decode digits password fits four is = ap (λ d. decode_sized d 4) is ∙ decode_sized-encode_lower password 4 four fits

-- a result is one value
pub one_ok : {E : Type 0} (r : Result (List ℕ) E) (a b : List ℕ) → r ≡ Ok a → r ≡ Ok b → a ≡ b
one_ok r a b first second = cc

-- the digits are those of one password
pub same_digits : (digits p q : List ℕ) → IsBytes p → IsBytes q → length p ≡ 4 → length q ≡ 4 → digits ≡ encode_lower p → digits ≡ encode_lower q → p ≡ q
same_digits digits p q fits_p fits_q four_p four_q is_p is_q =
    one_ok (decode_sized digits 4) p q (digits_decode digits p fits_p four_p is_p) (digits_decode digits q fits_q four_q is_q)

-- ---- the text

-- a text that begins with an x
pub begins_x : (text : List ℕ) → pointwise nat_eq (take 1 text) (120 ∷ []) ≡ true → text ≡ 120 ∷ drop 1 text
begins_x [] is = absurd cc
begins_x (b ∷ rest) is = let same : b ≡ 120 = eqb-true b 120 (and_parts (nat_eq b 120) true is).0 in ap (λ c. c ∷ rest) same

-- and one that does not
pub begins_other : (text digits : List ℕ) → text ≡ 120 ∷ digits → pointwise nat_eq (take 1 text) (120 ∷ []) ≡ false → ⊥
begins_other text digits is other = let begins : pointwise nat_eq (take 1 text) (120 ∷ []) ≡ true =
    ap (λ t. pointwise nat_eq (take 1 t) (120 ∷ [])) is in absurd cc

-- a password that is shown is letters, or is shown by its digits
pub two_ways : (text password : List ℕ) → IsShown text password → ((text ≡ password) × (list_all is_ascii_alphabetic password ≡ true)) ⊎
    ((text ≡ 120 ∷ encode_lower password) × (list_all is_ascii_alphabetic password ≡ false))
two_ways text password shown =
    (elim (list_all is_ascii_alphabetic password) as
    (λ b. list_all is_ascii_alphabetic password ≡ b → ((text ≡ password) × (list_all is_ascii_alphabetic password ≡ true)) ⊎
    ((text ≡ 120 ∷ encode_lower password) × (list_all is_ascii_alphabetic password ≡ false))) [
      | true ↦ λ letters. inl (shown.text_is ∙ letters_shown password letters, letters)
      | false ↦ λ others. inr (shown.text_is ∙ others_shown password shown.bytes others, others)
    ]) refl

-- four bytes that are no letters show no password
pub no_letters : (text bytes : List ℕ) (o : Option (List ℕ)) → bytes ≡ text → length bytes ≡ 4 →
    IfNone o (length bytes ≡ 4 → list_all is_ascii_alphabetic bytes ≡ false) →
    IfNone o ((password : List ℕ) → IsShown text password → ⊥)
no_letters text bytes (Some p) same four none = tt
no_letters text bytes None same four none = λ password shown. elim (two_ways text password shown) [
  | inl letters ↦
      let is : bytes ≡ password = same ∙ letters.0 in
      let both : list_all is_ascii_alphabetic password ≡ false = sym (ap (list_all is_ascii_alphabetic) is) ∙ none four in
      let all = letters.1 in
      absurd cc
  | inr others ↦ absurd (omega (arith, ap length same, ap length others.0, eight password shown.four, four))
]

tails : (xs ys : List ℕ) → 120 ∷ xs ≡ 120 ∷ ys → xs ≡ ys
tails xs ys is = ap (drop 1) is

-- an x and the digits of other bytes
module _ (text bytes digits : List ℕ) (same : bytes ≡ text) (text-is : bytes ≡ 120 ∷ digits) where
  pub some_others : (o : Option (List ℕ)) → IfSome o (λ p. digits ≡ encode_lower p) → IfSome o (λ p. length p ≡ 4) →
      IfSome o (λ p. list_all is_ascii_alphabetic p ≡ false) →
      IfSome o IsBytes → IfSome o (IsShown text)
  some_others None is four others fits = tt
  some_others (Some p) is four others fits =
      record { text_is = sym same ∙ text-is ∙ ap (λ ds. 120 ∷ ds) is ∙ sym (others_shown p fits others); four = four; bytes = fits }

  pub no_others : (o : Option (List ℕ)) → (length bytes ≡ 4 → ⊥) →
      IfNone o ((p : List ℕ) → IsBytes p → length p ≡ 4 → list_all is_ascii_alphabetic p ≡ false → digits ≡ encode_lower p → ⊥) →
      IfNone o ((p : List ℕ) → IsShown text p → ⊥)
  no_others (Some p) other none = tt
  no_others None other none = λ p shown. elim (two_ways text p shown) [
    | inl letters ↦ other (ap length (same ∙ letters.0) ∙ shown.four)
    | inr others ↦ none p shown.bytes shown.four others.1 (tails digits (encode_lower p) (sym text-is ∙ same ∙ others.0))
  ]

-- a text of no four bytes that does not begin with an x
pub no_x : (text bytes : List ℕ) → bytes ≡ text → (length bytes ≡ 4 → ⊥) → pointwise nat_eq (take 1 bytes) (120 ∷ []) ≡ false → (p : List ℕ) →
    IsShown text p → ⊥
no_x text bytes same other begins p shown = elim (two_ways text p shown) [
  | inl letters ↦ other (ap length (same ∙ letters.0) ∙ shown.four)
  | inr others ↦ begins_other bytes (encode_lower p) (same ∙ others.0) begins
]

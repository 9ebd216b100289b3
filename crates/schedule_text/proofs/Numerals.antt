-- A number that is written in decimal, and bytes that are written in hexadecimal digits, are read back; both are words.
use Rattle.std.proofs.Common.{◌≡◌, ℕ, ◌+◌, ◌*◌, ◌/◌, ◌%◌, ◌^◌, ◌≤◌, ◌<◌, ◌==◌, ◌&&◌, Bool, true, false, cond, List, [], ◌∷◌, get_or, zero, suc, refl, ap, sym, subst, ◌∙◌, arith, rules, Option, None, Some, decimal}
use Rattle.std.specs.Result.{result_ok}
use Rattle.std.specs.Str.{bytes_eq}
use Rattle.std.specs.Str.Parse.{AllDigits, IsNumeral, digits_value, digits_value_after}
use Rattle.std.specs.Char.{digit_value}
use Rattle.std.proofs.lemmas.Bool.{le-leb}
use Rattle.std.proofs.lemmas.Bool.Decides.{nat_tests}
use Rattle.std.proofs.lemmas.Fmt.{decimal_is_IsNumeral}
use Rattle.std.proofs.lemmas.Str.Parse.{digit_from_value}
use Rattle.byte_output.specs.Bytes.{IsBytes}
use Rattle.hex.specs.Hex.{lower_digits, encode_with, encode_lower, decode_of}
use Rattle.hex.proofs.HexLemmas.{decode_of-encode_lower}
use Rattle.schedule_text.specs.Words.{digit_in, digit_after, number_after, number_in, no_bytes, bytes_in}
use Rattle.schedule_text.specs.Spelling.{bytes_word}
use Rattle.schedule_text.proofs.Plain.{IsPlain, ArePlain, IsWord}

-- ---- decimal digits

-- more digits make a number no smaller
grows : (n : ℕ) (ds : List ℕ) → n ≤ digits_value_after 10 n ds
grows n [] = omega arith
grows n (c ∷ cs) = let more = grows (n * 10 + digit_value c) cs in omega arith

digit_read : (c : ℕ) → (48 ≤ c) × (c ≤ 57) → digit_in c ≡ Some (digit_value c)
digit_read c range = grind (arith, nat_tests)

number_read : (most n : ℕ) (ds : List ℕ) → AllDigits 10 ds → digits_value_after 10 n ds ≤ most → number_after most n ds ≡ Some (digits_value_after 10 n ds)
number_read most n [] digits small = refl
number_read most n (c ∷ cs) digits small =
    let next : ℕ = n * 10 + digit_value c in
    let rest : ℕ → Option ℕ = λ m. number_after most m cs in
    let more = grows next cs in
    let fits : next ≤ most = omega arith in
    ap (λ (d : Option ℕ). digit_after most n d rest) (digit_read c (digit_from_value c digits.0))
    ∙ ap (λ (t : Bool). cond t (rest next) None) (le-leb next most fits)
    ∙ number_read most next cs digits.1 small

-- a number is read back
pub number_in-decimal : (most n : ℕ) → n ≤ most → n < 2 ^ 64 → number_in most (decimal n) ≡ Some n
number_in-decimal most n within small =
    let numeral = decimal_is_IsNumeral n small in
    by (decimal n) numeral.0 (subst (λ (k : ℕ). k ≤ most) (sym numeral.1) within) ∙ ap (λ (k : ℕ). Some k) numeral.1
  where
    by : (ds : List ℕ) → IsNumeral 10 ds → digits_value 10 ds ≤ most → number_in most ds ≡ Some (digits_value 10 ds)
    by [] digits fits = absurd (omega (arith, digits.0))
    by (c ∷ cs) digits fits = number_read most 0 (c ∷ cs) digits.1 fits

digit_plain : (c : ℕ) → (48 ≤ c) × (c ≤ 57) → IsPlain c
digit_plain c range = (grind (arith, nat_tests), grind (arith, nat_tests), grind (arith, nat_tests))

digits_plain : (ds : List ℕ) → AllDigits 10 ds → ArePlain ds
digits_plain [] digits = tt
digits_plain (c ∷ cs) digits = (digit_plain c (digit_from_value c digits.0), digits_plain cs digits.1)

pub decimal_is_word : (n : ℕ) → n < 2 ^ 64 → IsWord (decimal n)
decimal_is_word n small = by (decimal n) (decimal_is_IsNumeral n small).0
  where
    by : (ds : List ℕ) → IsNumeral 10 ds → IsWord ds
    by [] digits = omega (arith, digits.0)
    by (c ∷ cs) digits = digits_plain (c ∷ cs) digits.1

-- ---- hexadecimal digits

-- each element of a list of plain bytes is plain, and so is what stands for one that is not there
plain_at : (bs : List ℕ) → ArePlain bs → (i : ℕ) → IsPlain (get_or bs i 0)
plain_at [] plain i = (refl, refl, refl)
plain_at (b ∷ bs) plain zero = plain.0
plain_at (b ∷ bs) plain (suc i) = plain_at bs plain.1 i

glyphs_plain : ArePlain lower_digits
glyphs_plain = search rules

hex_plain : (bytes : List ℕ) → ArePlain (encode_lower bytes)
unfolding encode_with
hex_plain [] = tt
hex_plain (b ∷ bytes) = (plain_at lower_digits glyphs_plain (b / 16), (plain_at lower_digits glyphs_plain (b % 16), hex_plain bytes))

pub bytes_are_word : (bytes : List ℕ) → IsWord (bytes_word bytes)
unfolding encode_with
bytes_are_word [] = ((refl, refl, refl), tt)
bytes_are_word (b ∷ bytes) = hex_plain (b ∷ bytes)

two_digits : (x y : ℕ) (more : List ℕ) → bytes_eq (x ∷ y ∷ more) no_bytes ≡ false
two_digits x y more = by (x == 45)
  where
    by : (t : Bool) → (t && false) ≡ false
    by true = refl
    by false = refl

not_none : (b : ℕ) (bytes : List ℕ) → bytes_eq (encode_lower (b ∷ bytes)) no_bytes ≡ false
unfolding encode_with
not_none b bytes = two_digits (get_or lower_digits (b / 16) 0) (get_or lower_digits (b % 16) 0) (encode_lower bytes)

-- bytes are read back
pub bytes_in-word : (bytes : List ℕ) → IsBytes bytes → bytes_in (bytes_word bytes) ≡ Some bytes
bytes_in-word [] small = refl
bytes_in-word (b ∷ bytes) small =
    let word : List ℕ = encode_lower (b ∷ bytes) in
    ap (λ (t : Bool). cond t (Some []) (result_ok (decode_of word))) (not_none b bytes) ∙ ap result_ok (decode_of-encode_lower (b ∷ bytes) small)

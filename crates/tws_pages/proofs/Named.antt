-- The bytes of a level set's name, as they are found and as they are shown.
use Rattle.std.proofs.Common.{◌≡◌, ℕ, ◌+◌, ◌<◌, ◌==◌, nat_lt, true, List, [], ◌∷◌, ◌++◌, length, take, get_or, Option, None, Some, lit<, ap, refl, sym, ◌∙◌}
use Rattle.std.specs.Prelude.{map, encode_utf8}
use Rattle.std.specs.List.{list_all, position, position_or_len}
use Rattle.std.proofs.lemmas.Bool.{and_from, cond_both, ltb-false}
use Rattle.std.proofs.lemmas.List.{map-append, take_all, take_more}
use Rattle.std.proofs.lemmas.Option.{cond_some}
use Rattle.std.proofs.lemmas.Str.{encode_ascii}
use Rattle.tws_pages.specs.Escaping.{Shows, escaped, is_printable}
use Rattle.tws_pages.specs.declared.level_set.TheConstants.{SHOWN_NAME}
use Rattle.tws_pages.specs.SetName.{before_zero, shown_byte, shown_name}
use Rattle.tws_pages.proofs.Escapes.{chars_shown, printable_small}

-- ---- where a name ends

module _ (bytes : List ℕ) where
  abbrev zero_at : ℕ
  zero_at = position_or_len (λ b. b == 0) bytes

  pub ended : (i : ℕ) → position (λ b. b == 0) bytes ≡ Some i → take i bytes ≡ before_zero bytes
  ended i is = ap (λ (n : ℕ). take n bytes) (sym (cond_some (nat_lt zero_at (length bytes)) zero_at i is).1)

  pub unended : position (λ b. b == 0) bytes ≡ None → bytes ≡ before_zero bytes
  unended none =
      cond_both (nat_lt zero_at (length bytes)) (Some zero_at) None (λ (o : Option ℕ). o ≡ None → bytes ≡ before_zero bytes)
      (λ less is. absurd cc)
      (λ past is. sym (take_all zero_at bytes (ltb-false zero_at (length bytes) past)))
      none

-- ---- how it is shown

shown_small : (b : ℕ) → shown_byte b < 128
shown_small b = cond_both (is_printable b) b 63 (λ (x : ℕ). x < 128) (λ printable. printable_small b printable) (λ other. lit< tt)

-- one more byte
pub shown-more : (bytes : List ℕ) (i : ℕ) → i < length bytes →
    map shown_byte (take i bytes) ++ encode_utf8 (shown_byte (get_or bytes i 0)) ≡ map shown_byte (take (i + 1) bytes)
shown-more bytes i inside =
    ap (λ (xs : List ℕ). map shown_byte (take i bytes) ++ xs) (encode_ascii (shown_byte (get_or bytes i 0)) (shown_small (get_or bytes i 0)))
    ∙ sym (map-append shown_byte (take i bytes) (get_or bytes i 0 ∷ []))
    ∙ ap (map shown_byte) (sym (take_more bytes i 0 inside))

shown_is_printable : (b : ℕ) → is_printable (shown_byte b) ≡ true
shown_is_printable b = cond_both (is_printable b) b 63 (λ (x : ℕ). is_printable x ≡ true) (λ printable. printable) (λ other. refl)

all_printable : (bytes : List ℕ) → list_all is_printable (map shown_byte bytes) ≡ true
all_printable [] = refl
all_printable (b ∷ bytes) =
    and_from (is_printable (shown_byte b)) (list_all is_printable (map shown_byte bytes)) (shown_is_printable b) (all_printable bytes)

pub shows_name : (name : List ℕ) → Shows (escaped (shown_name name)) (shown_name name)
shows_name name = chars_shown (shown_name name) (all_printable (take SHOWN_NAME name))

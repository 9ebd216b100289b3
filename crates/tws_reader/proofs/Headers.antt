-- Eight bytes, and as many more as the last of them says, are a header.
use Rattle.std.proofs.Common.{◌≡◌, ℕ, zero, suc, ◌<◌, ◌≤◌, List, [], ◌∷◌, ◌++◌, length, take, drop, slice_index, refl, sym, arith, take-append-drop, length-take}
use Rattle.std.proofs.lemmas.List.{drop_more}
use Rattle.tws_file.specs.declared.«ruleset».Ruleset.{Ruleset}
use Rattle.byte_output.specs.Bytes.{IsBytes}
use Rattle.tws_file.specs.Fields.{signature, ruleset_code}
use Rattle.tws_file.specs.Text.{header_text}
use Rattle.tws_reader.specs.Steps.{BeginsWithHeader}
use Rattle.byte_output.proofs.Bytes.{IsBytes-drop, IsBytes-take}

two_bytes : (a b : ℕ) → a < 256 → b < 256 → IsBytes (a ∷ b ∷ [])
two_bytes a b fa fb zero = fa
two_bytes a b fa fb (suc zero) = fb
two_bytes a b fa fb (suc (suc i)) = omega arith

-- `count` bytes of the rest are the further header bytes
pub header_from : (bytes : List ℕ) (rules : Ruleset) (rest extra records : List ℕ) (count : ℕ) → IsBytes bytes →
    8 ≤ length bytes → take 4 bytes ≡ signature → ruleset_code rules ≡ slice_index bytes 4 → count ≡ slice_index bytes 7
    → rest ≡ drop 8 bytes → count ≤ length rest → extra ≡ take count rest → records ≡ drop count rest
    → BeginsWithHeader bytes rules (slice_index bytes 5 ∷ slice_index bytes 6 ∷ []) extra records
header_from bytes rules rest extra records count fits long signed code seven rest-is room extra-is records-is =
    let four : bytes ≡ take 4 bytes ++ drop 4 bytes = sym (take-append-drop 4 bytes) in
    let cell4 = drop_more bytes 4 0 (omega arith) in
    let cell5 = drop_more bytes 5 0 (omega arith) in
    let cell6 = drop_more bytes 6 0 (omega arith) in
    let cell7 = drop_more bytes 7 0 (omega arith) in
    let further : extra ++ records ≡ rest = rw (extra-is, records-is) (take-append-drop count rest) in
    let len : length extra ≡ count = rw extra-is (omega (arith, length-take count rest)) in
    let whole : bytes ≡ header_text rules (slice_index bytes 5 ∷ slice_index bytes 6 ∷ []) extra ++ records = cc in
    let rest_fits : IsBytes rest = rw rest-is (IsBytes-drop 8 bytes fits) in
    record {
      split = whole;
      word_bytes = two_bytes (slice_index bytes 5) (slice_index bytes 6) (fits 5) (fits 6);
      word_length = refl;
      extra_bytes = rw extra-is (IsBytes-take count rest rest_fits);
      extra_length = omega (arith, len, seven, fits 7);
    }

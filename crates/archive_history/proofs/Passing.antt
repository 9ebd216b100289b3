-- The records of a file, passed one by one.
use Rattle.std.proofs.Common.{◌≡◌, ◌≢◌, ℕ, zero, suc, ◌+◌, ◌-◌, ◌<◌, ◌≤◌, ◌==◌, nat_lt, Bool, true, false, List, [], ◌∷◌, ◌++◌, length, take, drop, slice_index, Option, None, Some, refl, ap, sym, ◌∙◌, subst, arith, append_assoc, append-nil, length-drop, drop-drop, take-append-drop}
use Rattle.std.proofs.Math.Seq.{take-add}
use Rattle.std.proofs.lemmas.Bool.{ltb-false}
use Rattle.std.proofs.lemmas.Bool.Decides.{nat_tests}
use Rattle.std.proofs.lemmas.List.{nil_from_length, take_rest, get_or-drop}
use Rattle.std.specs.Prelude.{if◌then◌else◌}
use Rattle.std.specs.Io.KnownBytes.{Appends}
use Rattle.byteorder.specs.Endian.{little_number}
use Rattle.byte_output.specs.Output.{Sends}
use Rattle.byte_output.proofs.Sending.{Sends-none, all_sent}
use Rattle.archive_history.proofs.Ranges.{Sends-after}
use Rattle.archive_history.specs.Kept.{record_length, kept_of, kept_after, kept_in, kept_records, header_length, without_pads}
use Rattle.archive_history.specs.Steps.{Passes}

-- ---- a record's length

abbrev length_if : (is_cut : Bool) → ℕ → Option ℕ
length_if is_cut size = if is_cut then None else Some size

size_if : (xs : List ℕ) (m n : ℕ) (is_cut : Bool) → nat_lt (length xs) (4 + m) ≡ is_cut → length_if is_cut (4 + m) ≡ Some n → (4 ≤ n) × (n ≤ length xs)
size_if xs m n true is found = absurd cc
size_if xs m n false is found =
    let same : 4 + m ≡ n = cc in
    (omega (arith, same), omega (arith, same, ltb-false (length xs) (4 + m) is))

-- a record has its size field, and is within the bytes
pub size_within : (xs : List ℕ) (n : ℕ) → record_length xs ≡ Some n → (4 ≤ n) × (n ≤ length xs)
size_within xs n found = size_if xs (little_number 4 xs) n (nat_lt (length xs) (4 + little_number 4 xs)) refl found

-- one that is cut has no length
pub cut_length : (xs : List ℕ) (m : ℕ) → little_number 4 xs ≡ m → length xs < 4 + m → record_length xs ≡ None
cut_length xs m number short =
    let is : nat_lt (length xs) (4 + little_number 4 xs) ≡ true = grind (arith, nat_tests) in
    ap (λ (b : Bool). length_if b (4 + little_number 4 xs)) is

pub short_length : (xs : List ℕ) → length xs < 4 → record_length xs ≡ None
short_length xs short = cut_length xs (little_number 4 xs) refl (omega arith)

pub whole_length : (xs : List ℕ) (m : ℕ) → little_number 4 xs ≡ m → 4 + m ≤ length xs → record_length xs ≡ Some (4 + m)
whole_length xs m number long =
    let is : nat_lt (length xs) (4 + little_number 4 xs) ≡ false = grind (arith, nat_tests) in
    ap (λ (b : Bool). length_if b (4 + little_number 4 xs)) is ∙ ap (λ (k : ℕ). Some (4 + k)) number

-- the number in four bytes of a file
pub number_at : (file : List ℕ) (at : ℕ) → little_number 4 (slice_index file at ∷ slice_index file (at + 1) ∷ slice_index file (at + 2) ∷ slice_index file (at + 3) ∷ []) ≡ little_number 4 (drop at file)
number_at file at =
    let a = get_or-drop at file 0 0 in
    let b = get_or-drop at file 1 0 in
    let c = get_or-drop at file 2 0 in
    let d = get_or-drop at file 3 0 in
    let first : slice_index file (at + 0) ≡ slice_index file at = ap (slice_index file) (omega arith) in
    cc

-- ---- what is kept of records

same_after : (found : Option ℕ) (f g : List ℕ → List ℕ) (xs : List ℕ) → ((n : ℕ) → found ≡ Some n → f (drop n xs) ≡ g (drop n xs)) → kept_after found f xs ≡ kept_after found g xs
same_after None f g xs same = refl
same_after (Some n) f g xs same = ap (λ (ys : List ℕ). kept_of n xs ++ ys) (same n refl)

-- more steps than there are bytes change nothing
enough : (m n : ℕ) (xs : List ℕ) → length xs ≤ m → length xs ≤ n → kept_in m xs ≡ kept_in n xs
enough zero zero xs p q = refl
enough zero (suc n) xs p q = subst (λ (ys : List ℕ). ys ≡ kept_in (suc n) ys) (sym (nil_from_length xs (omega (arith, p)))) refl
enough (suc m) zero xs p q = subst (λ (ys : List ℕ). kept_in (suc m) ys ≡ ys) (sym (nil_from_length xs (omega (arith, q)))) refl
enough (suc m) (suc n) xs p q =
    same_after (record_length xs) (kept_in m) (kept_in n) xs
    (λ k found. enough m n (drop k xs) (omega (arith, length-drop k xs, (size_within xs k found).0, p)) (omega (arith, length-drop k xs, (size_within xs k found).0, q)))

-- the first record, and those after it
pub kept-step : (xs : List ℕ) → kept_records xs ≡ kept_after (record_length xs) kept_records xs
unfolding kept_records
kept-step [] = refl
kept-step (x ∷ xs) =
    same_after (record_length (x ∷ xs)) (kept_in (length xs)) (λ (ys : List ℕ). kept_in (length ys) ys) (x ∷ xs)
    (λ k found. enough (length xs) (length (drop k (x ∷ xs))) (drop k (x ∷ xs)) (omega (arith, length-drop k (x ∷ xs), (size_within (x ∷ xs) k found).0)) (omega arith))

-- the same for a record that was found
pub kept-more : (xs : List ℕ) (n : ℕ) → record_length xs ≡ Some n → kept_records xs ≡ kept_of n xs ++ kept_records (drop n xs)
kept-more xs n found = kept-step xs ∙ ap (λ (r : Option ℕ). kept_after r kept_records xs) found

pub kept-rest : (xs : List ℕ) → record_length xs ≡ None → kept_records xs ≡ xs
kept-rest xs none = kept-step xs ∙ ap (λ (r : Option ℕ). kept_after r kept_records xs) none

-- ---- a file that is written

-- the bytes from `begun` up to `at` wait, and with what is kept of the records after them they complete what is kept of the file
pub record HasPassed (old new : Option (List ℕ)) (buffer file : List ℕ) (begun at : ℕ) : Type 0 where
  pub before : begun ≤ at
  pub within : begun ≤ length file
  pub text : List ℕ
  pub sends : Sends old new text buffer
  pub split : text ++ (take (at - begun) (drop begun file) ++ kept_records (drop at file)) ≡ without_pads file

-- at first the header waits
pub passed_none : (old : Option (List ℕ)) (buffer file : List ℕ) → buffer ≡ [] → HasPassed old old buffer file 0 (header_length file)
unfolding without_pads
passed_none old buffer file none =
    let whole : header_length file - 0 ≡ header_length file = omega arith in
    record {
      before = omega arith;
      within = omega arith;
      text = [];
      sends = subst (λ (xs : List ℕ). Sends old old [] xs) (sym none) (Sends-none old []);
      split = ap (λ (n : ℕ). take n file ++ kept_records (drop (header_length file) file)) whole;
    }

-- a record with a body waits too
pub passes_kept : (old : Option (List ℕ)) (buffer file : List ℕ) (begun at after : ℕ) → begun ≤ at → at ≤ after → after - at ≢ 4 → Passes old old buffer buffer file begun at after begun
passes_kept old buffer file begun at after before some other =
    let size = after - at in
    let is : (size == 4) ≡ false = grind (arith, nat_tests) in
    let place : begun + (at - begun) ≡ at = omega arith in
    let count : after - begun ≡ (at - begun) + size = omega arith in (
      [],
      subst (λ (xs : List ℕ). Sends old old xs buffer) (sym (append-nil buffer)) (Sends-none old buffer),
      ap (λ (n : ℕ). take n (drop begun file)) count
          ∙ take-add (at - begun) size (drop begun file)
          ∙ ap (λ (xs : List ℕ). take (at - begun) (drop begun file) ++ take size xs) (drop-drop (at - begun) begun file ∙ ap (λ (n : ℕ). drop n file) place)
          ∙ ap (λ (b : Bool). take (at - begun) (drop begun file) ++ (if b then [] else take size (drop at file))) (sym is),
    )

-- before a pad, what waits is sent
pub passes_pad : (old new : Option (List ℕ)) (buffer buffer' file : List ℕ) (begun at after : ℕ) → after - at ≡ 4 → Sends old new (buffer ++ take (at - begun) (drop begun file)) buffer' →
    Passes old new buffer buffer' file begun at after after
passes_pad old new buffer buffer' file begun at after size sends =
    let none : after - after ≡ 0 = omega arith in (
      take (at - begun) (drop begun file),
      sends,
      ap (λ (n : ℕ). take (at - begun) (drop begun file) ++ take n (drop after file)) none
          ∙ ap (λ (n : ℕ). take (at - begun) (drop begun file) ++ kept_of n (drop at file)) (sym size),
    )

-- one more record was passed
pub passed_more : (old mid new : Option (List ℕ)) (buffer buffer' file : List ℕ) (begun at size next : ℕ) → record_length (drop at file) ≡ Some size → next ≤ at + size →
    HasPassed old mid buffer file begun at → Passes mid new buffer buffer' file begun at (at + size) next → HasPassed old new buffer' file next (at + size)
passed_more old mid new buffer buffer' file begun at size next found within passed passes =
    let size-fits = size_within (drop at file) size found in
    let size-is : at + size - at ≡ size = omega arith in
    let waited = take (at - begun) (drop begun file) in
    let waits = take (at + size - next) (drop next file) in
    let after = kept_records (drop (at + size) file) in
    let kept : kept_records (drop at file) ≡ kept_of size (drop at file) ++ after =
    kept-more (drop at file) size found ∙ ap (λ (xs : List ℕ). kept_of size (drop at file) ++ kept_records xs) (drop-drop size at file) in
    let sent : passes.0 ++ waits ≡ waited ++ kept_of size (drop at file) = passes.2 ∙ ap (λ (n : ℕ). waited ++ kept_of n (drop at file)) size-is in
    let joined : waited ++ kept_records (drop at file) ≡ passes.0 ++ (waits ++ after) =
    ap (λ (xs : List ℕ). waited ++ xs) kept
    ∙ sym (append_assoc waited (kept_of size (drop at file)) after)
    ∙ ap (λ (xs : List ℕ). xs ++ after) (sym sent)
    ∙ append_assoc passes.0 waits after in
    record {
      before = within;
      within = omega (arith, within, size-fits.0, size-fits.1, length-drop at file);
      text = passed.text ++ passes.0;
      sends = Sends-after old mid new passed.text buffer passes.0 buffer' passed.sends passes.1;
      split = append_assoc passed.text passes.0 (waits ++ after) ∙ ap (λ (xs : List ℕ). passed.text ++ xs) (sym joined) ∙ passed.split;
    }

-- at the end, what waits and the rest are sent, and what was gathered is written
pub passed_all : (old mid sent new : Option (List ℕ)) (buffer buffer' file : List ℕ) (begun at end : ℕ) → end ≡ length file → record_length (drop at file) ≡ None →
    HasPassed old mid buffer file begun at → Sends mid sent (buffer ++ take (end - begun) (drop begun file)) buffer' → Appends sent new buffer' → Appends old new (without_pads file)
passed_all old mid sent new buffer buffer' file begun at end end-is none passed sends appends =
    let place : begun + (at - begun) ≡ at = omega (arith, passed.before) in
    let waited = take (at - begun) (drop begun file) in
    let rest : take (end - begun) (drop begun file) ≡ waited ++ kept_records (drop at file) =
    ap (λ (n : ℕ). take (n - begun) (drop begun file)) end-is
    ∙ take_rest file begun
    ∙ sym (take-append-drop (at - begun) (drop begun file))
    ∙ ap (λ (xs : List ℕ). waited ++ xs) (drop-drop (at - begun) begun file ∙ ap (λ (n : ℕ). drop n file) place ∙ sym (kept-rest (drop at file) none)) in
    let all = Sends-after old mid sent passed.text buffer (take (end - begun) (drop begun file)) buffer' passed.sends sends in
    subst (λ (xs : List ℕ). Appends old new xs) (ap (λ (xs : List ℕ). passed.text ++ xs) rest ∙ passed.split)
    (all_sent old sent new (passed.text ++ take (end - begun) (drop begun file)) buffer' all appends)

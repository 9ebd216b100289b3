-- What is kept of a solution file is the text of the file without its pads.
use Rattle.std.proofs.Common.{◌≡◌, ◌≢◌, ℕ, ◌+◌, ◌==◌, Bool, true, false, List, [], ◌∷◌, ◌++◌, length, take, drop, filter, slice_index, Some, refl, ap, sym, ◌∙◌, arith, append_assoc, length-append}
use Rattle.std.proofs.Math.Seq.{drop-append_seam}
use Rattle.std.proofs.lemmas.Bool.Decides.{nat_tests}
use Rattle.std.proofs.lemmas.List.{take_at}
use Rattle.std.specs.List.{flat_map, AllByRecursion}
use Rattle.std.specs.Prelude.{if◌then◌else◌}
use Rattle.byteorder.specs.Endian.{little_bytes, little_number}
use Rattle.byteorder.specs.Numbers.{little_number-reads_back}
use Rattle.tws_file.specs.Fields.{signature, ruleset_code}
use Rattle.tws_file.specs.Text.{File, Record, pad, set, bare, solution, IsRecord, IsText, body_of, header_text, record_text}
use Rattle.tws_file.proofs.RecordText.{body_size, shape}
use Rattle.archive_history.specs.Kept.{header_length, is_kept, kept_of, kept_records, record_length, unpadded, without_pads}
use Rattle.archive_history.proofs.Passing.{kept-more, whole_length}

-- ---- records

-- the length of a record's text
record_size : (r : Record) → length (record_text r) ≡ 4 + length (body_of r)
record_size r = length-append (little_bytes 4 (length (body_of r))) (body_of r)

-- the record that bytes begin with is found
found : (r : Record) (more : List ℕ) → IsRecord r → record_length (record_text r ++ more) ≡ Some (length (record_text r))
found r more fits =
    let size = length (body_of r) in
    let split = append_assoc (little_bytes 4 size) (body_of r) more in
    let number : little_number 4 (record_text r ++ more) ≡ size = ap (little_number 4) split ∙ little_number-reads_back 4 size (body_of r ++ more) (body_size r (shape r fits)).1 in
    whole_length (record_text r ++ more) size number (omega (arith, length-append (record_text r) more, record_size r)) ∙ ap Some (sym (record_size r))

-- a text of so many bytes stays
stays : (text more : List ℕ) → length text ≢ 4 → kept_of (length text) (text ++ more) ≡ text
stays text more long =
    let is : (length text == 4) ≡ false = grind (arith, nat_tests) in
    ap (λ (b : Bool). if b then [] else take (length text) (text ++ more)) is ∙ take_at text more (length text) refl

-- of the first record all is kept, or nothing of a pad
abbrev first_kept : Record → List ℕ
first_kept r = if is_kept r then record_text r else []

long_body : (r : Record) → IsRecord r → is_kept r ≡ true → length (record_text r) ≢ 4
long_body pad fits kept = absurd cc
long_body (set rest) fits kept = λ is. absurd (omega (arith, is, record_size (set rest)))
long_body (bare key) fits kept = λ is. absurd (omega (arith, is, record_size (bare key), fits.fits.password_length))
long_body (solution s) fits kept = λ is. absurd (omega (arith, is, record_size (solution s), length-append s.key.password (s.flags ∷ s.start ∷ (little_bytes 4 s.seed ++ (little_bytes 4 s.ticks ++ s.moves)))))

first_is : (r : Record) (more : List ℕ) → IsRecord r → kept_of (length (record_text r)) (record_text r ++ more) ≡ first_kept r
first_is pad more fits = refl
first_is (set rest) more fits = stays (record_text (set rest)) more (long_body (set rest) fits refl)
first_is (bare key) more fits = stays (record_text (bare key)) more (long_body (bare key) fits refl)
first_is (solution s) more fits = stays (record_text (solution s)) more (long_body (solution s) fits refl)

filtered : (r : Record) (rs : List Record) → first_kept r ++ flat_map record_text (filter is_kept rs) ≡ flat_map record_text (filter is_kept (r ∷ rs))
filtered pad rs = refl
filtered (set rest) rs = refl
filtered (bare key) rs = refl
filtered (solution s) rs = refl

kept_texts : (rs : List Record) → AllByRecursion IsRecord rs → kept_records (flat_map record_text rs) ≡ flat_map record_text (filter is_kept rs)
unfolding kept_records
kept_texts [] fits = refl
kept_texts (r ∷ rs) fits =
    let text = record_text r in
    let more = flat_map record_text rs in
    kept-more (text ++ more) (length text) (found r more fits.0)
    ∙ ap (λ (xs : List ℕ). xs ++ kept_records (drop (length text) (text ++ more))) (first_is r more fits.0)
    ∙ ap (λ (xs : List ℕ). first_kept r ++ xs) (ap kept_records (drop-append_seam text more) ∙ kept_texts rs fits.1)
    ∙ filtered r rs

-- ---- the file

kept_fit : (rs : List Record) → AllByRecursion IsRecord rs → AllByRecursion IsRecord (filter is_kept rs)
kept_fit [] fits = tt
kept_fit (pad ∷ rs) fits = kept_fit rs fits.1
kept_fit (set rest ∷ rs) fits = (fits.0, kept_fit rs fits.1)
kept_fit (bare key ∷ rs) fits = (fits.0, kept_fit rs fits.1)
kept_fit (solution s ∷ rs) fits = (fits.0, kept_fit rs fits.1)

-- a header is as long as its eighth byte says
header_size : (code : ℕ) (word extra more : List ℕ) → length word ≡ 2 → (slice_index ((signature ++ (code ∷ (word ++ (length extra ∷ extra)))) ++ more) 7 ≡ length extra) × (length (signature ++ (code ∷ (word ++ (length extra ∷ extra)))) ≡ 8 + length extra)
header_size code [] extra more two = absurd (omega (arith, two))
header_size code (a ∷ []) extra more two = absurd (omega (arith, two))
header_size code (a ∷ b ∷ []) extra more two = (refl, omega arith)
header_size code (a ∷ b ∷ c ∷ word) extra more two = absurd (omega (arith, two))

pub unpadded_text : (bytes : List ℕ) (f : File) → IsText bytes f → IsText (without_pads bytes) (unpadded f)
unfolding without_pads
unpadded_text bytes f text =
    let header = header_text f.ruleset f.word f.extra in
    let records = flat_map record_text f.records in
    let size = header_size (ruleset_code f.ruleset) f.word f.extra records text.fits.word_length in
    let place : header_length bytes ≡ length header = ap (λ (xs : List ℕ). 8 + slice_index xs 7) text.text ∙ ap (λ (n : ℕ). 8 + n) size.0 ∙ sym size.1 in
    record {
      fits = record {
        word = text.fits.word;
        word_length = text.fits.word_length;
        extra = text.fits.extra;
        extra_length = text.fits.extra_length;
        records = kept_fit f.records text.fits.records;
      };
      text =
          ap (λ (n : ℕ). take n bytes ++ kept_records (drop n bytes)) place
          ∙ ap (λ (xs : List ℕ). take (length header) xs ++ kept_records (drop (length header) xs)) text.text
          ∙ ap (λ (xs : List ℕ). xs ++ kept_records (drop (length header) (header ++ records))) (take_at header records (length header) refl)
          ∙ ap (λ (xs : List ℕ). header ++ kept_records xs) (drop-append_seam header records)
          ∙ ap (λ (xs : List ℕ). header ++ xs) (kept_texts f.records text.fits.records);
    }

-- The file that was read so far, and the bytes after it.
use Rattle.std.proofs.Common.{◌≡◌, ◌≢◌, ℕ, ◌-◌, List, [], ◌∷◌, ◌++◌, length, drop, Option, None, Some, Result, Ok, Err, refl, ap, sym, subst, ◌∙◌, append_assoc, append-nil, arith, inl, inr, ⊎_elim, length-append}
use Rattle.std.specs.List.{flat_map, AllByRecursion}
use Rattle.std.proofs.Math.Seq.{drop-append_seam}
use Rattle.std.proofs.lemmas.List.Concat.{flat_map-append}
use Rattle.byte_output.proofs.Lists.{all_append}
use Rattle.tws_file.specs.declared.file_fault.FileFault.{FileFault}
use Rattle.tws_file.specs.declared.file_fault.FileFault.TheVariants.{ShortHeader, BadSignature, BadRuleset, ShortRecord, BadSize, MoveCut, Memory}
use Rattle.tws_file.specs.declared.«ruleset».Ruleset.{Ruleset}
use Rattle.tws_file.specs.Text.{File, Record, IsRecord, IsFile, IsText, header_text, text_of, record_text}
use Rattle.tws_file.specs.Fault.{HasFileFault, IsLasting, StopsAt, IsRecordCut, FailsWith, IsReadAs}
use Rattle.tws_reader.specs.Reader.{Reading, reading, stopped, Pushes, PushFails, TakesPiece, IsAnswer}
use Rattle.tws_reader.specs.Steps.{BeginsWithHeader, StopsAfter, RecordsFail, FailsForGood, IsAt, IsLeft, text_so_far, Advances}
use Rattle.tws_reader.proofs.Beginnings.{cut_begins_none}
use Rattle.tws_reader.proofs.Faults.{one_fault, text_without_fault}
use Rattle.tws_file.proofs.FileText.{one_file}

-- ---- more records

-- the file with more records appended
abbrev pub with_more : File → List Record → File
with_more file more = record { «ruleset» = file.ruleset; word = file.word; extra = file.extra; records = file.records ++ more }

-- a file with more records is a file
pub with_more_fits : (file : File) (more : List Record) → IsFile file → AllByRecursion IsRecord more → IsFile (with_more file more)
with_more_fits file more fits fits_more = record {
  word = fits.word;
  word_length = fits.word_length;
  extra = fits.extra;
  extra_length = fits.extra_length;
  records = all_append IsRecord file.records more fits.records fits_more;
}

-- its text goes on with the texts of those records
pub with_more_text : (file : File) (more : List Record) → text_of (with_more file more) ≡ text_of file ++ flat_map record_text more
with_more_text file more =
    ap (λ (xs : List ℕ). header_text file.ruleset file.word file.extra ++ xs) (flat_map-append record_text file.records more)
    ∙ sym (append_assoc (header_text file.ruleset file.word file.extra) (flat_map record_text file.records) (flat_map record_text more))

-- a stop in the bytes after a file is also one in all the bytes
stop_after : (file : File) (bytes left_over : List ℕ) (offset place : ℕ) → IsFile file → offset ≡ length (text_of file) →
    StopsAfter bytes offset place left_over → StopsAt (text_of file ++ bytes) place left_over
stop_after file bytes left_over offset place fits offset-is stop =
    let texts = flat_map record_text stop.prefix in
    let whole = with_more_text file stop.prefix in
    record {
      prefix = with_more file stop.prefix;
      fits = with_more_fits file stop.prefix fits stop.fits;
      split = ap (λ (xs : List ℕ). text_of file ++ xs) stop.split ∙ sym (append_assoc (text_of file) texts left_over) ∙ ap (λ (xs : List ℕ). xs ++ left_over) (sym whole);
      place = omega (arith, stop.place, offset-is, ap length whole, length-append (text_of file) texts);
      some = stop.some;
      no_record = stop.no_record;
    }

-- records that fail after a file are a fault of all the bytes
pub more_fails : (file : File) (bytes : List ℕ) (offset : ℕ) (e : FileFault) → IsFile file → offset ≡ length (text_of file) → RecordsFail bytes offset e → FailsForGood (text_of file ++ bytes) e
more_fails file bytes offset (ShortHeader n) fits offset-is fault = absurd fault
more_fails file bytes offset BadSignature fits offset-is fault = absurd fault
more_fails file bytes offset (BadRuleset code) fits offset-is fault = absurd fault
more_fails file bytes offset (ShortRecord o) fits offset-is fault = absurd fault
more_fails file bytes offset (BadSize o) fits offset-is fault =
    inl (tt, (fault.0, stop_after file bytes fault.0 offset o fits offset-is fault.1, fault.2))
more_fails file bytes offset (MoveCut place) fits offset-is fault =
    inl (
      tt,
      record {
        offset = fault.0;
        rest = fault.1;
        at = fault.2;
        stop = stop_after file bytes fault.1 offset fault.0 fits offset-is fault.3;
        moves = fault.4;
        place_is = fault.5;
      },
    )
more_fails file bytes offset Memory fits offset-is fault = inr refl

-- ---- the header

-- a header alone is a file without records
abbrev pub without_records : Ruleset → List ℕ → List ℕ → File
without_records rules word extra = record { «ruleset» = rules; word = word; extra = extra; records = [] }

-- a header that was read makes a file without records
pub without_records_fits : (bytes word extra rest : List ℕ) (rules : Ruleset) → BeginsWithHeader bytes rules word extra rest → IsFile (without_records rules word extra)
without_records_fits bytes word extra rest rules header = record {
  word = header.word_bytes;
  word_length = header.word_length;
  extra = header.extra_bytes;
  extra_length = header.extra_length;
  records = tt;
}

-- the bytes are its text and what follows it
pub header_split : (bytes word extra rest : List ℕ) (rules : Ruleset) → BeginsWithHeader bytes rules word extra rest → bytes ≡ text_of (without_records rules word extra) ++ rest
header_split bytes word extra rest rules header =
    header.split ∙ ap (λ (xs : List ℕ). xs ++ rest) (sym (append-nil (header_text rules word extra)))

-- ---- a step

-- what is left of the bytes is what follows the texts that were read
pub drop_texts : (bytes texts rest : List ℕ) → bytes ≡ texts ++ rest → drop (length bytes - length rest) bytes ≡ rest
drop_texts bytes texts rest split =
    let count : length bytes - length rest ≡ length texts = omega (arith, ap length split, length-append texts rest) in
    ap (λ (n : ℕ). drop n bytes) count ∙ ap (drop (length texts)) split ∙ drop-append_seam texts rest

-- the first file, and what is left after it
pub first_advance : (file : File) (offset : ℕ) (bytes rest : List ℕ) → IsAt None offset → IsFile file →
    bytes ≡ text_of file ++ rest → IsRecordCut rest → Advances None (Some file) offset bytes (length bytes - length rest)
first_advance file offset bytes rest begin fits split cut =
    let left = drop_texts bytes (text_of file) rest split in
    let count : length bytes - length rest ≡ length (text_of file) = omega (arith, ap length split, length-append (text_of file) rest) in
    record {
      within = omega arith;
      text = split ∙ ap (λ (xs : List ℕ). text_of file ++ xs) (sym left);
      at = (fits, omega (arith, begin, count));
      left = subst IsRecordCut (sym left) cut;
    }

-- more records, and what is left after them
pub next_advance : (file : File) (offset : ℕ) (bytes rest : List ℕ) (more : List Record) → IsFile file →
    offset ≡ length (text_of file) → AllByRecursion IsRecord more → bytes ≡ flat_map record_text more ++ rest → IsRecordCut rest
    → Advances (Some file) (Some (with_more file more)) offset bytes (length bytes - length rest)
next_advance file offset bytes rest more fits offset-is fits_more split cut =
    let texts = flat_map record_text more in
    let whole = with_more_text file more in
    let left = drop_texts bytes texts rest split in
    record {
      within = omega arith;
      text = ap (λ (xs : List ℕ). text_of file ++ xs) split ∙ sym (append_assoc (text_of file) texts rest) ∙
          ap (λ (xs : List ℕ). xs ++ rest) (sym whole) ∙ ap (λ (xs : List ℕ). text_of (with_more file more) ++ xs) (sym left);
      at = (with_more_fits file more fits fits_more, omega (arith, offset-is, ap length split, length-append texts rest, ap length whole, length-append (text_of file) texts));
      left = subst IsRecordCut (sym left) cut;
    }

-- ---- the end

-- a file, and then bytes that are cut
pub cut_after : (file : File) (rest : List ℕ) (offset : ℕ) → IsFile file → offset ≡ length (text_of file) → rest ≢ [] → IsRecordCut rest → HasFileFault (text_of file ++ rest) (ShortRecord offset)
cut_after file rest offset fits offset-is some cut =
    (rest, record { prefix = file; fits = fits; split = refl; place = offset-is; some = some; no_record = cut_begins_none rest cut }, cut)

pub text_alone : (file : File) → IsFile file → IsText (text_of file ++ []) file
text_alone file fits = record { fits = fits; text = append-nil (text_of file) }

-- a file's text and a record that is cut have no lasting fault
no_lasting_after : (file : File) (rest : List ℕ) (offset : ℕ) (e : FileFault) → IsFile file → offset ≡ length (text_of file) →
    IsRecordCut rest → IsLasting e → HasFileFault (text_of file ++ rest) e → ⊥
no_lasting_after file [] offset e fits offset-is cut lasts fault = text_without_fault (text_of file ++ []) file e (text_alone file fits) fault
no_lasting_after file (b ∷ rest) offset e fits offset-is cut lasts fault =
    let some : b ∷ rest ≢ [] = λ none. absurd cc in
    let same = one_fault (text_of file ++ b ∷ rest) e (ShortRecord offset) fault (cut_after file (b ∷ rest) offset fits offset-is some cut) in
    absurd (subst IsLasting same lasts)

-- if nothing whole is left to read, there is no lasting fault
pub no_lasting : (so_far : Option File) (rest : List ℕ) (offset : ℕ) → IsAt so_far offset → IsLeft so_far rest → (e : FileFault) → IsLasting e → HasFileFault (text_so_far so_far ++ rest) e → ⊥
no_lasting None rest offset at left e lasts fault =
    absurd (subst IsLasting (one_fault rest e (ShortHeader (length rest)) fault left) lasts)
no_lasting (Some file) rest offset at left e lasts fault =
    no_lasting_after file rest offset e at.0 at.1 left lasts fault

-- ---- a fault that stops the reading

-- the fault of bytes for which memory did not run out
pub lasting_of : (bytes : List ℕ) (e : FileFault) → e ≢ Memory → FailsForGood bytes e → IsLasting e × HasFileFault bytes e
lasting_of bytes e some fails = ⊎_elim (λ lasts. lasts) (λ memory. absurd (some memory)) fails

-- a push that fails with a lasting fault stops the reader
pub stops_at : (bytes piece : List ℕ) (e : FileFault) (new : Reading) → new ≡ stopped e → IsLasting e × HasFileFault (bytes ++ piece) e → PushFails bytes piece e new
stops_at bytes piece (ShortHeader n) new is fails = absurd fails.0
stops_at bytes piece BadSignature new is fails = (is, fails.1)
stops_at bytes piece (BadRuleset code) new is fails = (is, fails.1)
stops_at bytes piece (ShortRecord o) new is fails = absurd fails.0
stops_at bytes piece (BadSize o) new is fails = (is, fails.1)
stops_at bytes piece (MoveCut place) new is fails = (is, fails.1)
stops_at bytes piece Memory new is fails = absurd fails.0

-- a reader that stopped with the fault of its bytes has taken them
pub takes_at : (bytes : List ℕ) (e : FileFault) → IsLasting e × HasFileFault bytes e → TakesPiece (Err e) bytes (stopped e)
takes_at bytes (ShortHeader n) fails = absurd fails.0
takes_at bytes BadSignature fails = fails
takes_at bytes (BadRuleset code) fails = fails
takes_at bytes (ShortRecord o) fails = absurd fails.0
takes_at bytes (BadSize o) fails = fails
takes_at bytes (MoveCut place) fails = fails
takes_at bytes Memory fails = tt

-- ---- reading in one piece

-- reading a file's text fails only when out of memory
pub only_memory : (bytes : List ℕ) (file : File) (e : FileFault) → FailsWith bytes e → IsText bytes file → e ≡ Memory
only_memory bytes file e fails text = ⊎_elim (λ fault. absurd (text_without_fault bytes file e text fault)) (λ memory. memory) fails

-- pushing all bytes into a new reader fails with their fault
pub push_fails : (bytes : List ℕ) (r new : Reading) (e : FileFault) → r ≡ reading [] → Pushes r bytes (Err e) new → FailsWith bytes e
push_fails bytes (reading (b ∷ xs)) new e begin fails = absurd cc
push_fails bytes (stopped fault) new e begin fails = absurd cc
push_fails bytes (reading []) new (ShortHeader n) begin fails = absurd fails
push_fails bytes (reading []) new (ShortRecord offset) begin fails = absurd fails
push_fails bytes (reading []) new BadSignature begin fails = inl fails.1
push_fails bytes (reading []) new (BadRuleset code) begin fails = inl fails.1
push_fails bytes (reading []) new (BadSize offset) begin fails = inl fails.1
push_fails bytes (reading []) new (MoveCut place) begin fails = inl fails.1
push_fails bytes (reading []) new Memory begin fails = inr refl

-- reading a file's text returns that file
pub reads_as : (bytes : List ℕ) (file : File) (answer : Result File FileFault) → IsAnswer bytes answer → IsText bytes file → IsReadAs file answer
reads_as bytes file (Ok f) text is-text = one_file bytes f file text is-text
reads_as bytes file (Err e) fault is-text = absurd (text_without_fault bytes file e is-text fault)

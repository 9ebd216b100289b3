-- What was read of the bytes after those that were read before.
use Rattle.std.proofs.Common.{◌≡◌, ℕ, ◌+◌, ◌-◌, true, false, List, [], ◌++◌, length, take, drop, Option, None, Some, is_some, refl, ap, sym, subst, ◌∙◌, append_assoc, append-nil, arith, length-append, length-drop}
use Rattle.std.proofs.lemmas.Bool.{true≢false}
use Rattle.std.specs.List.{flat_map, AllByRecursion}
use Rattle.std.proofs.Math.Seq.{take-append_seam}
use Rattle.tws_file.specs.declared.file_fault.FileFault.{FileFault}
use Rattle.tws_file.specs.Text.{File, Record, IsRecord, text_of, record_text}
use Rattle.tws_file.specs.Fault.{IsRecordCut}
use Rattle.tws_reader.specs.Steps.{RecordsFail, FailsForGood, FailsAfter, IsShort, Advances, with_records, BeginsWithHead, ReadsOn, Continues}
use Rattle.tws_reader.proofs.ReadSoFar.{drop_texts, more_fails, with_more, with_more_fits, with_more_text, first_advance, next_advance}

-- records that were appended to a list, and what is left
pub reads_on : (old new more : List Record) (bytes rest : List ℕ) → new ≡ old ++ more → AllByRecursion IsRecord more →
    bytes ≡ flat_map record_text more ++ rest → IsRecordCut rest → ReadsOn old new bytes (length bytes - length rest)
reads_on old new more bytes rest appended fits split cut =
    let left = drop_texts bytes (flat_map record_text more) rest split in
    record {
      more = more;
      appended = appended;
      fits = fits;
      within = omega arith;
      split = split ∙ ap (λ (xs : List ℕ). flat_map record_text more ++ xs) (sym left);
      cut = subst IsRecordCut (sym left) cut;
    }

-- the first `count` of a list that was appended to
pub first_ones : (old new : List Record) (count : ℕ) → (more : List Record) → new ≡ old ++ more → count ≡ length old → take count new ≡ old
first_ones old new count more appended is = rw (appended, is) (take-append_seam old more)

-- the bytes are too short for a header
pub short_continues : (was : Option File) (list : List Record) (offset : ℕ) (bytes : List ℕ) → is_some was ≡ false → IsShort bytes → Continues was was list list offset bytes 0
short_continues (Some head) list offset bytes none short = absurd (true≢false none)
short_continues None list offset bytes none short = record {
  more = [];
  appended = sym (append-nil list);
  fits = tt;
  within = omega arith;
  some = λ is. (refl, refl);
  undone = refl;
  step = λ records before at. record { within = omega arith; text = refl; at = omega (arith, at); left = short };
}

-- a header, and records after it
pub first_continues : (was : Option File) (head : File) (old new : List Record) (offset : ℕ) (bytes rest : List ℕ)
    (start count : ℕ) → is_some was ≡ false → BeginsWithHead bytes head rest → start ≡ length bytes - length rest →
    ReadsOn old new rest count → Continues was (Some head) old new offset bytes (start + count)
first_continues (Some other) head old new offset bytes rest start count none h start-is r = absurd (true≢false none)
first_continues None head old new offset bytes rest start count none h start-is r =
    let empty = with_records head [] in
    let file = with_more empty r.more in
    let left = drop count rest in
    let split : bytes ≡ text_of file ++ left =
    h.split
    ∙ ap (λ (xs : List ℕ). text_of empty ++ xs) r.split
    ∙ sym (append_assoc (text_of empty) (flat_map record_text r.more) left)
    ∙ ap (λ (xs : List ℕ). xs ++ left) (sym (with_more_text empty r.more)) in
    let count-is : length bytes - length left ≡ start + count = omega (arith, start-is, r.within, ap length h.split, length-append (text_of empty) rest, length-drop count rest) in
    record {
      more = r.more;
      appended = r.appended;
      fits = r.fits;
      within = omega (arith, start-is, r.within, ap length h.split, length-append (text_of empty) rest);
      some = λ is. absurd cc;
      undone = refl;
      step = λ records before at.
          let adv = first_advance file offset bytes left at (with_more_fits empty r.more h.fits r.fits) split r.cut in
          subst (λ (rs : List Record). Advances None (Some (with_records head (rs ++ r.more))) offset bytes (start + count)) (sym (before refl))
          (subst (λ (n : ℕ). Advances None (Some file) offset bytes n) count-is adv);
    }

-- records after those that were read before
pub next_continues : (was : Option File) (old new : List Record) (offset : ℕ) (bytes : List ℕ) (count : ℕ) → is_some was ≡ true →
    ReadsOn old new bytes count → Continues was was old new offset bytes count
next_continues None old new offset bytes count some r = absurd (true≢false (sym some))
next_continues (Some head) old new offset bytes count some r =
    let left = drop count bytes in
    let count-is : length bytes - length left ≡ count = omega (arith, r.within, length-drop count bytes) in
    record {
      more = r.more;
      appended = r.appended;
      fits = r.fits;
      within = r.within;
      some = λ is. absurd cc;
      undone = refl;
      step = λ records before at.
          let file = with_records head records in
          subst (λ (n : ℕ). Advances (Some file) (Some (with_more file r.more)) offset bytes n) count-is
          (next_advance file offset bytes left r.more at.0 at.1 r.fits r.split r.cut);
    }

-- ---- a failure

pub next_fails : (was : Option File) (offset : ℕ) (bytes : List ℕ) (e : FileFault) → is_some was ≡ true → RecordsFail bytes offset e → FailsAfter was offset bytes e
next_fails None offset bytes e some fault = absurd (true≢false (sym some))
next_fails (Some head) offset bytes e some fault = λ records at. more_fails (with_records head records) bytes offset e at.0 at.1 fault

pub head_fails : (was : Option File) (offset : ℕ) (bytes : List ℕ) (e : FileFault) → is_some was ≡ false → FailsForGood bytes e → FailsAfter was offset bytes e
head_fails (Some head) offset bytes e none fault = absurd (true≢false none)
head_fails None offset bytes e none fault = λ records at. fault

pub first_fails : (was : Option File) (head : File) (offset : ℕ) (bytes rest : List ℕ) (start : ℕ) (e : FileFault) →
    is_some was ≡ false → BeginsWithHead bytes head rest → start ≡ length bytes - length rest → RecordsFail rest start e →
    FailsAfter was offset bytes e
first_fails was head offset bytes rest start e none h start-is fault =
    let empty = with_records head [] in
    let at : start ≡ length (text_of empty) = omega (arith, start-is, ap length h.split, length-append (text_of empty) rest) in
    head_fails was offset bytes e none (subst (λ (xs : List ℕ). FailsForGood xs e) (sym h.split) (more_fails empty rest start e h.fits at fault))

-- A lasting fault of bytes is also the fault of any bytes that begin with them.
use Rattle.std.proofs.Common.{◌≡◌, ◌≢◌, ℕ, ◌≤◌, List, [], ◌∷◌, ◌++◌, length, Result, Err, refl, ap, sym, subst, ◌∙◌, append_assoc, arith, length-append}
use Rattle.std.proofs.Math.ListN.{get_or-append}
use Rattle.std.proofs.lemmas.List.{take-append-le}
use Rattle.byteorder.specs.Endian.{little_number}
use Rattle.byteorder.specs.Numbers.{little_from-take}
use Rattle.tws_file.specs.declared.file_fault.FileFault.{FileFault}
use Rattle.tws_file.specs.declared.file_fault.FileFault.TheVariants.{ShortHeader, BadSignature, BadRuleset, ShortRecord, BadSize, MoveCut, Memory}
use Rattle.tws_file.specs.Text.{File, text_of}
use Rattle.tws_file.specs.Fault.{HasFileFault, IsLasting, IsBadSize, HasBadSize}
use Rattle.tws_reader.specs.Reader.{Reading, reading, stopped, HasTaken, TakesPiece, Finishes, IsAnswer}
use Rattle.tws_reader.proofs.Beginnings.{bad_begins_none, cut_moves_begin_none, cut_moves-append}

little_number_4-append : (bytes more : List ℕ) → 4 ≤ length bytes → little_number 4 (bytes ++ more) ≡ little_number 4 bytes
little_number_4-append bytes more long =
    sym (little_from-take 0 4 4 (bytes ++ more) (omega arith))
    ∙ ap (little_number 4) (take-append-le 4 bytes more long)
    ∙ little_from-take 0 4 4 bytes (omega arith)

-- a bad size stays one when more bytes follow
bad_size-append : (rest more : List ℕ) → HasBadSize rest → HasBadSize (rest ++ more)
bad_size-append rest more bad =
    (omega (arith, bad.0, length-append rest more), subst IsBadSize (sym (little_number_4-append rest more bad.0)) bad.1)

still_some : (rest more : List ℕ) → rest ≢ [] → rest ++ more ≢ []
still_some [] more some none = some refl
still_some (b ∷ rest) more some none = absurd cc

-- a lasting fault of bytes is one of these and any further bytes
pub lasting-append : (bytes more : List ℕ) (e : FileFault) → IsLasting e → HasFileFault bytes e → HasFileFault (bytes ++ more) e
lasting-append bytes more (ShortHeader n) lasts fault = absurd lasts
lasting-append bytes more BadSignature lasts fault =
    (omega (arith, fault.0, length-append bytes more), λ signed. fault.1 (sym (take-append-le 4 bytes more (omega (arith, fault.0))) ∙ signed))
lasting-append bytes more (BadRuleset code) lasts fault =
    let header = fault.0 in (
      record {
        long = omega (arith, header.long, length-append bytes more);
        signed =
            take-append-le 4 bytes more (omega (arith, header.long)) ∙ header.signed;
      },
      fault.1 ∙
          sym (get_or-append bytes more 0 4 (omega (arith, header.long))),
      fault.2,
    )
lasting-append bytes more (ShortRecord o) lasts fault = absurd lasts
lasting-append bytes more (BadSize o) lasts fault =
    let rest = fault.0 in
    let stop = fault.1 in
    let bad = bad_size-append rest more fault.2 in
    let some : rest ++ more ≢ [] = λ none. omega (arith, bad.0, ap length none) in (
      rest ++ more,
      record {
        prefix = stop.prefix;
        fits = stop.fits;
        split = ap (λ (xs : List ℕ). xs ++ more) stop.split ∙ append_assoc (text_of stop.prefix) rest more;
        place = stop.place;
        some = some;
        no_record = bad_begins_none (rest ++ more) bad;
      },
      bad,
    )
lasting-append bytes more (MoveCut place) lasts fault =
    let rest = fault.rest in
    let stop = fault.stop in
    let moves = cut_moves-append rest more fault.at fault.moves in
    record {
      offset = fault.offset;
      rest = rest ++ more;
      at = fault.at;
      stop = record {
        prefix = stop.prefix;
        fits = stop.fits;
        split = ap (λ (xs : List ℕ). xs ++ more) stop.split ∙ append_assoc (text_of stop.prefix) rest more;
        place = stop.place;
        some = still_some rest more stop.some;
        no_record = cut_moves_begin_none (rest ++ more) fault.at moves;
      };
      moves = moves;
      place_is = fault.place_is;
    }
lasting-append bytes more Memory lasts fault = absurd lasts

-- a reader that has stopped takes every piece
pub takes_stopped : (r : Reading) (fault : FileFault) (bytes piece : List ℕ) → stopped fault ≡ r → HasTaken r bytes → TakesPiece (Err fault) (bytes ++ piece) r
takes_stopped r (ShortHeader n) bytes piece view taken = absurd (subst (λ (s : Reading). HasTaken s bytes) (sym view) taken).0
takes_stopped r BadSignature bytes piece view taken =
    let was = subst (λ (s : Reading). HasTaken s bytes) (sym view) taken in
    rw (← view) (was.0, lasting-append bytes piece BadSignature was.0 was.1)
takes_stopped r (BadRuleset code) bytes piece view taken =
    let was = subst (λ (s : Reading). HasTaken s bytes) (sym view) taken in
    rw (← view) (was.0, lasting-append bytes piece (BadRuleset code) was.0 was.1)
takes_stopped r (ShortRecord o) bytes piece view taken = absurd (subst (λ (s : Reading). HasTaken s bytes) (sym view) taken).0
takes_stopped r (BadSize o) bytes piece view taken =
    let was = subst (λ (s : Reading). HasTaken s bytes) (sym view) taken in
    rw (← view) (was.0, lasting-append bytes piece (BadSize o) was.0 was.1)
takes_stopped r (MoveCut place) bytes piece view taken =
    let was = subst (λ (s : Reading). HasTaken s bytes) (sym view) taken in
    rw (← view) (was.0, lasting-append bytes piece (MoveCut place) was.0 was.1)
takes_stopped r Memory bytes piece view taken = tt

-- what a reader returns at the end is what reading all its bytes at once returns
pub joined_from : (r : Reading) (bytes : List ℕ) (result : Result File FileFault) → HasTaken r bytes → Finishes r result → IsAnswer bytes result
joined_from (reading xs) bytes result taken finishes = subst (λ (b : List ℕ). IsAnswer b result) taken finishes
joined_from (stopped fault) bytes result taken finishes = rw finishes taken.1

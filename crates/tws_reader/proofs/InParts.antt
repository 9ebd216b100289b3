-- A reader in parts: what it has read and handed out, and what a reader of the whole makes of it.
use Rattle.std.proofs.Common.{◌≡◌, ◌≢◌, ℕ, ◌+◌, ◌<◌, ◌^◌, List, [], ◌∷◌, ◌++◌, length, Option, None, Some, Result, Ok, Err, refl, ap, sym, subst, ◌∙◌, append-nil, arith, length-append}
use Rattle.tws_file.specs.declared.file_fault.FileFault.{FileFault}
use Rattle.tws_file.specs.declared.file_fault.FileFault.TheVariants.{ShortHeader, BadSignature, BadRuleset, ShortRecord, BadSize, MoveCut, Memory}
use Rattle.tws_file.specs.Text.{File, Record, IsText, text_of}
use Rattle.tws_file.specs.Fault.{HasFileFault, IsLasting}
use Rattle.tws_reader.specs.PartReader.{PartReading, HasReadUnless, HasRead, IsReadTo, FitsUnless, HasRoom, FailsPart, AppendsPart}
use Rattle.tws_reader.specs.Reader.{Reading, reading, stopped, reading_from, HasTaken, HasRoomFor, Pushes, TakesPiece, HasNoLasting, Finishes, IsAnswer}
use Rattle.tws_reader.specs.Steps.{IsAt, IsLeft, text_so_far, file_so_far, with_records}
use Rattle.tws_reader.proofs.ReadSoFar.{cut_after, no_lasting, stops_at, takes_at}
use Rattle.tws_reader.proofs.Lasting.{lasting-append}

-- ---- with and without a fault

pub read_none : (p : PartReading) (records : List Record) (bytes : List ℕ) → p.fault ≡ None → HasRead p records bytes → IsReadTo p.head p.offset p.rest records bytes
read_none p records bytes none h = subst (λ f. HasReadUnless f p records bytes) none h

pub read_some : (p : PartReading) (records : List Record) (bytes : List ℕ) (e : FileFault) → p.fault ≡ Some e → HasRead p records bytes → IsLasting e × HasFileFault bytes e
read_some p records bytes e some h = subst (λ f. HasReadUnless f p records bytes) some h

pub some_read : (p : PartReading) (records : List Record) (bytes : List ℕ) (e : FileFault) → p.fault ≡ Some e → IsLasting e × HasFileFault bytes e → HasRead p records bytes
some_read p records bytes e some h = subst (λ f. HasReadUnless f p records bytes) (sym some) h

left_after : (head : Option File) (records : List Record) (rest : List ℕ) → IsLeft head rest → IsLeft (file_so_far head records) rest
left_after None records rest left = left
left_after (Some h) records rest left = left

-- ---- a piece

-- a fault that was kept is returned again
pub stays_stopped : (p : PartReading) (piece : List ℕ) (e : FileFault) → p.fault ≡ Some e → FailsPart p piece p e
stays_stopped p piece e kept = record {
  kept = kept;
  hands_out = λ records bytes h.
      let lasts = read_some p records bytes e kept h in
      some_read p (records ++ []) (bytes ++ piece) e kept (lasts.0, lasting-append bytes piece e lasts.0 lasts.1);
}

room_by : (fault : Option FileFault) (p : PartReading) (records : List Record) (bytes piece : List ℕ) →
    HasReadUnless fault p records bytes → length bytes + length piece < 2 ^ 64 →
    FitsUnless fault (p.offset + length p.rest + length piece)
room_by (Some e) p records bytes piece h fits = tt
room_by None p records bytes piece h fits = by p.head h.at h.text
  where
    by : (head : Option File) → IsAt (file_so_far head records) p.offset → text_so_far (file_so_far head records) ++ p.rest ≡ bytes → p.offset + length p.rest + length piece < 2 ^ 64
    by None at text = omega (arith, at, fits, ap length text)
    by (Some head) at text = omega (arith, at.1, fits, ap length text, length-append (text_of (with_records head records)) p.rest)

-- there is room if all bytes together can be counted
pub has_room : (p : PartReading) (records : List Record) (bytes piece : List ℕ) → HasRead p records bytes → length bytes + length piece < 2 ^ 64 → HasRoom p piece
has_room p records bytes piece h fits = room_by p.fault p records bytes piece h fits

-- ---- the end

-- without a fault, and with the header
pub going_on : (p : PartReading) (fault : Option FileFault) (header : Option File) (head : File) (offset : ℕ) (rest : List ℕ)
    (records : List Record) (bytes : List ℕ) → record { fault = fault; head = header; offset = offset; rest = rest } ≡ p →
    fault ≡ None → header ≡ Some head → HasRead p records bytes → IsReadTo (Some head) offset rest records bytes
going_on p fault header head offset rest records bytes view none some h =
    let plain = subst (λ (q : PartReading). HasRead q records bytes) (sym view) h in
    let to = subst (λ f. HasReadUnless f (record { fault = fault; head = header; offset = offset; rest = rest }) records bytes) none plain in
    subst (λ (o : Option File). IsReadTo o offset rest records bytes) some to

pub none_at_all : (xs : List ℕ) → length xs ≡ 0 → xs ≡ []
none_at_all [] is = refl
none_at_all (x ∷ xs) is = absurd (omega arith)

pub ends_whole : (head : File) (rest bytes : List ℕ) (records : List Record) (offset : ℕ) → rest ≡ [] → IsReadTo (Some head) offset rest records bytes → IsText bytes (with_records head records)
ends_whole head rest bytes records offset none h = record {
  fits = h.at.0;
  text = sym h.text ∙ ap (λ (xs : List ℕ). text_of (with_records head records) ++ xs) none ∙ append-nil (text_of (with_records head records));
}

pub ends_cut : (head : File) (rest bytes : List ℕ) (records : List Record) (offset : ℕ) → rest ≢ [] → IsReadTo (Some head) offset rest records bytes → HasFileFault bytes (ShortRecord offset)
ends_cut head rest bytes records offset some h =
    subst (λ (xs : List ℕ). HasFileFault xs (ShortRecord offset)) h.text (cut_after (with_records head records) rest offset h.at.0 h.at.1 some h.left)

-- ---- the whole

abbrev pub push_err : FileFault → Result (Unit {0}) FileFault
push_err e = Err e

abbrev pub end_err : FileFault → Result File FileFault
end_err e = Err e

abbrev pub end_ok : File → Result File FileFault
end_ok file = Ok file

reading_none : (fault : Option FileFault) (so_far : Option File) (rest : List ℕ) → fault ≡ None → reading_from fault so_far rest ≡ reading (text_so_far so_far ++ rest)
reading_none fault so_far rest none = ap (λ f. reading_from f so_far rest) none

reading_some : (fault : Option FileFault) (so_far : Option File) (rest : List ℕ) (e : FileFault) → fault ≡ Some e → reading_from fault so_far rest ≡ stopped e
reading_some fault so_far rest e some = ap (λ f. reading_from f so_far rest) some

-- what a reader of the whole has read of the bytes so far
abbrev pub whole_of : PartReading → List Record → Reading
whole_of p records = reading_from p.fault (file_so_far p.head records) p.rest

abbrev pub own_bytes : PartReading → List Record → List ℕ
own_bytes p records = text_so_far (file_so_far p.head records) ++ p.rest

-- it has room if the reader in parts has
pub whole_room : (p : PartReading) (records : List Record) (r : Reading) (piece : List ℕ) → whole_of p records ≡ r →
    (p.fault ≡ None → HasRead p records (own_bytes p records)) → HasRoomFor r piece → HasRoom p piece
whole_room p records r piece view read room = by p.fault refl
  where
    by : (fault : Option FileFault) → p.fault ≡ fault → HasRoom p piece
    by (Some e) is = subst (λ f. FitsUnless f (p.offset + length p.rest + length piece)) (sym is) tt
    by None is =
        has_room p records (own_bytes p records) piece (read is)
        (subst (λ s. HasRoomFor s piece) (sym view ∙ reading_none p.fault (file_so_far p.head records) p.rest is) room)

module _ (p new : PartReading) (records : List Record) (piece : List ℕ) (read : p.fault ≡ None → HasRead p records (own_bytes p records)) where
  stops_by : (fault : Option FileFault) → p.fault ≡ fault → (r s : Reading) (e : FileFault) → whole_of p records ≡ r →
      s ≡ stopped e → FailsPart p piece new e → ((k : FileFault) → p.fault ≡ Some k → push_err e ≡ push_err k) →
      Pushes r piece (Err e) s
  stops_by (Some k) is r s e view now fails kept =
      let err = kept k is in
      let same : e ≡ k = cc in
      subst (λ q. Pushes q piece (Err e) s) (sym (reading_some p.fault (file_so_far p.head records) p.rest k is) ∙ view) (err, now ∙ ap stopped same)
  stops_by None is r s e view now fails kept =
      let lasts = read_some new (records ++ []) (own_bytes p records ++ piece) e fails.kept (fails.hands_out records (own_bytes p records) (read is)) in
      subst (λ q. Pushes q piece (Err e) s) (sym (reading_none p.fault (file_so_far p.head records) p.rest is) ∙ view) (stops_at (own_bytes p records) piece e s now lasts)

  pub pushes_fault : (after : List Record) (r s : Reading) (e : FileFault) → whole_of p records ≡ r → whole_of new after ≡ s →
      FailsPart p piece new e → ((k : FileFault) → p.fault ≡ Some k → push_err e ≡ push_err k) → Pushes r piece (Err e) s
  pushes_fault after r s e view now fails kept =
      stops_by p.fault refl r s e view (sym now ∙ reading_some new.fault (file_so_far new.head after) new.rest e fails.kept) fails kept

-- ---- what follows from the exact step

pub pushed_taken : (r s : Reading) (piece : List ℕ) (result : Result (Unit {0}) FileFault) → Pushes r piece result s → (bytes : List ℕ) → HasTaken r bytes → TakesPiece result (bytes ++ piece) s
pushed_taken (reading xs) s piece (Ok done) is bytes taken = rw is (ap (λ (ys : List ℕ). ys ++ piece) taken)
pushed_taken (reading xs) s piece (Err (ShortHeader n)) is bytes taken = absurd is
pushed_taken (reading xs) s piece (Err (ShortRecord o)) is bytes taken = absurd is
pushed_taken (reading xs) s piece (Err BadSignature) is bytes taken = rw (is.0, ← taken) (tt, is.1)
pushed_taken (reading xs) s piece (Err (BadRuleset c)) is bytes taken = rw (is.0, ← taken) (tt, is.1)
pushed_taken (reading xs) s piece (Err (BadSize o)) is bytes taken = rw (is.0, ← taken) (tt, is.1)
pushed_taken (reading xs) s piece (Err (MoveCut o)) is bytes taken = rw (is.0, ← taken) (tt, is.1)
pushed_taken (reading xs) s piece (Err Memory) is bytes taken = tt
pushed_taken (stopped e) s piece result is bytes taken = rw (is.0, is.1) (takes_at (bytes ++ piece) e (taken.0, lasting-append bytes piece e taken.0 taken.1))

-- after a piece that was read nothing lasts
pub goes_on : (p new : PartReading) (records after : List Record) (piece : List ℕ) →
    (p.fault ≡ None → HasRead p records (own_bytes p records)) → AppendsPart p new piece records after →
    HasNoLasting (whole_of new after)
goes_on p new records after piece read a =
    let all = own_bytes p records ++ piece in
    let to = read_none new after all a.is (subst (λ (rs : List Record). HasRead new rs all) (sym a.appended) (a.hands_out records (own_bytes p records) (read a.was))) in
    subst HasNoLasting (sym (reading_none new.fault (file_so_far new.head after) new.rest a.is))
    (no_lasting (file_so_far new.head after) new.rest new.offset to.at (left_after new.head after new.rest to.left))

-- ---- the end of the whole

answer_at : (p : PartReading) (records : List Record) (r : Reading) (result : Result File FileFault) → p.fault ≡ None →
    whole_of p records ≡ r → IsAnswer (own_bytes p records) result → Finishes r result
answer_at p records r result none view answer =
    subst (λ q. Finishes q result) (sym (reading_none p.fault (file_so_far p.head records) p.rest none) ∙ view) answer

-- a fault is that of the bytes, or the one that was kept
pub finishes_fault : (p : PartReading) (records : List Record) (r : Reading) (e : FileFault) → whole_of p records ≡ r →
    (p.fault ≡ None → HasRead p records (own_bytes p records)) →
    ((rs : List Record) (bytes : List ℕ) → HasRead p rs bytes → HasFileFault bytes e) →
    ((k : FileFault) → p.fault ≡ Some k → end_err e ≡ end_err k) → Finishes r (Err e)
finishes_fault p records r e view read ends kept = by p.fault refl
  where
    by : (fault : Option FileFault) → p.fault ≡ fault → Finishes r (Err e)
    by (Some k) is = subst (λ q. Finishes q (Err e)) (sym (reading_some p.fault (file_so_far p.head records) p.rest k is) ∙ view) (let err = kept k is in let same : e ≡ k = cc in ap Err same)
    by None is = answer_at p records r (Err e) is view (ends records (own_bytes p records) (read is))

pub finishes_whole : (p : PartReading) (records : List Record) (r : Reading) (head : File) → whole_of p records ≡ r →
    (p.fault ≡ None → HasRead p records (own_bytes p records)) →
    ((rs : List Record) (bytes : List ℕ) → HasRead p rs bytes → IsText bytes (with_records head rs)) →
    ((k : FileFault) → p.fault ≡ Some k → end_ok head ≡ end_err k) → IsText (own_bytes p records) (with_records head records) ×
    Finishes r (Ok (with_records head records))
finishes_whole p records r head view read ends kept = by p.fault refl
  where
    by : (fault : Option FileFault) → p.fault ≡ fault → IsText (own_bytes p records) (with_records head records) × Finishes r (Ok (with_records head records))
    by (Some k) is = absurd (let err = kept k is in cc)
    by None is = (let text = ends records (own_bytes p records) (read is) in (text, answer_at p records r (Ok (with_records head records)) is view text))

-- Bytes have at most one fault, and the text of a file has none.
use Rattle.std.proofs.Common.{◌≡◌, ◌⊎◌, ℕ, ◌+◌, ◌≤◌, List, [], ◌∷◌, ◌++◌, length, slice_index, refl, ap, sym, ◌∙◌, subst, arith, append_assoc, append-nil, inl, inr, ⊎_elim, length-append}
use Rattle.std.specs.List.{flat_map}
use Rattle.tws_file.specs.declared.file_fault.FileFault.{FileFault}
use Rattle.tws_file.specs.declared.file_fault.FileFault.TheVariants.{ShortHeader, BadSignature, BadRuleset, ShortRecord, BadSize, MoveCut, Memory}
use Rattle.tws_file.specs.declared.«ruleset».Ruleset.{Ruleset}
use Rattle.tws_file.specs.declared.«ruleset».Ruleset.TheVariants.{Lynx, Ms}
use Rattle.tws_file.specs.Fields.{ruleset_code}
use Rattle.tws_file.specs.Text.{File, IsFile, IsText, text_of, record_text}
use Rattle.tws_file.specs.Fault.{IsSigned, StopsAt, HasBadSize, IsRecordCut, HasCutMoves, StopsInMoves, HasFileFault}
use Rattle.tws_file.proofs.FileText.{text_parts, nothing_begins}
use Rattle.tws_reader.proofs.Beginnings.{moves_or_cut, moves_or_bad, one_cut_place}

-- a whole header
record HasHeader (bytes : List ℕ) : Type 0 where
  signed : IsSigned bytes
  known : (slice_index bytes 4 ≡ 1) ⊎ (slice_index bytes 4 ≡ 2)
  whole : 8 + slice_index bytes 7 ≤ length bytes

-- a ruleset's code is 1 or 2
code_known : (rules : Ruleset) → (ruleset_code rules ≡ 1) ⊎ (ruleset_code rules ≡ 2)
code_known Lynx = inl refl
code_known Ms = inr refl

-- the bytes of a header, and what follows them
abbrev header_bytes : ℕ → List ℕ → ℕ → List ℕ → List ℕ
header_bytes code word count rest = 0x35 ∷ 0x33 ∷ 0x9B ∷ 0x99 ∷ code ∷ (word ++ (count ∷ rest))

-- header bytes with a known code, and as many bytes after them as they say, begin with a whole header
header_is : (code : ℕ) (word : List ℕ) (count : ℕ) (rest : List ℕ) → length word ≡ 2 → (code ≡ 1) ⊎ (code ≡ 2) → count ≤ length rest → HasHeader (header_bytes code word count rest)
header_is code [] count rest len known long = absurd (omega arith)
header_is code (a ∷ []) count rest len known long = absurd (omega arith)
header_is code (a ∷ b ∷ []) count rest len known long =
    record { signed = record { long = omega arith; signed = refl }; known = known; whole = omega arith }
header_is code (a ∷ b ∷ c ∷ word) count rest len known long = absurd (omega arith)

-- a file's text begins with a whole header
header_of_text : (f : File) (rest : List ℕ) → IsFile f → HasHeader (text_of f ++ rest)
header_of_text f rest fits =
    let records = flat_map record_text f.records in
    let count = length f.extra in
    let after = f.extra ++ (records ++ rest) in
    let shape : text_of f ++ rest ≡ header_bytes (ruleset_code f.ruleset) f.word count after =
    ap (λ (xs : List ℕ). 0x35 ∷ 0x33 ∷ 0x9B ∷ 0x99 ∷ ruleset_code f.ruleset ∷ xs) (append_assoc (f.word ++ (count ∷ f.extra)) records rest ∙ append_assoc f.word (count ∷ f.extra) (records ++ rest)) in
    subst HasHeader (sym shape) (header_is (ruleset_code f.ruleset) f.word count after fits.word_length (code_known f.ruleset) (omega (arith, length-append f.extra (records ++ rest))))

-- ---- a whole header has no fault

-- a whole header is not a short one
short_header : (bytes : List ℕ) (n : ℕ) → HasHeader bytes → HasFileFault bytes (ShortHeader n) → ⊥
short_header bytes n header fault = ⊎_elim (λ short. absurd (omega (arith, header.signed.long))) (λ cut. absurd (omega (arith, header.whole, cut.cut))) fault.1

-- bytes with the signature have no bad one
bad_signature : (bytes : List ℕ) → IsSigned bytes → HasFileFault bytes BadSignature → ⊥
bad_signature bytes signed fault = fault.1 signed.signed

-- a code that is 1 or 2 is not an unknown one
unknown_ruleset : (bytes : List ℕ) (code : ℕ) → (slice_index bytes 4 ≡ 1) ⊎ (slice_index bytes 4 ≡ 2) → HasFileFault bytes (BadRuleset code) → ⊥
unknown_ruleset bytes code known fault = ⊎_elim (λ one. fault.2.0 (fault.1 ∙ one)) (λ two. fault.2.1 (fault.1 ∙ two)) known

-- ---- where the records stop

-- bytes whose records stop somewhere begin with a whole header
stop_header : (bytes : List ℕ) (offset : ℕ) (rest : List ℕ) → StopsAt bytes offset rest → HasHeader bytes
stop_header bytes offset rest stop = subst HasHeader (sym stop.split) (header_of_text stop.prefix rest stop.fits)

-- records stop at one place only
one_stop : (bytes : List ℕ) (o p : ℕ) (x y : List ℕ) → StopsAt bytes o x → StopsAt bytes p y → (o ≡ p) × (x ≡ y)
one_stop bytes o p x y s t =
    let same = text_parts s.prefix t.prefix x y s.fits t.fits s.no_record t.no_record (sym s.split ∙ t.split) in
    (s.place ∙ ap (λ (f : File). length (text_of f)) same.0 ∙ sym t.place, same.1)

-- a record with a bad size is not cut
bad_or_cut : (rest : List ℕ) → HasBadSize rest → IsRecordCut rest → ⊥
bad_or_cut rest bad cut = ⊎_elim (λ short. absurd (omega (arith, bad.0))) (λ whole. whole.1 bad.1) cut

-- bytes do not have both a cut record and a bad size
cut_and_bad : (bytes : List ℕ) (o p : ℕ) → HasFileFault bytes (ShortRecord o) → HasFileFault bytes (BadSize p) → ⊥
cut_and_bad bytes o p cut bad =
    bad_or_cut bad.0 bad.2 (subst IsRecordCut (one_stop bytes o p cut.0 bad.0 cut.1 bad.1).1 cut.2)

-- ---- where moves are cut

-- nor both a cut record and cut moves
cut_and_moves : (bytes : List ℕ) (o p : ℕ) → HasFileFault bytes (ShortRecord o) → StopsInMoves bytes p → ⊥
cut_and_moves bytes o p cut moves =
    moves_or_cut moves.rest moves.at moves.moves (subst IsRecordCut (one_stop bytes o moves.offset cut.0 moves.rest cut.1 moves.stop).1 cut.2)

-- nor both a bad size and cut moves
bad_and_moves : (bytes : List ℕ) (o p : ℕ) → HasFileFault bytes (BadSize o) → StopsInMoves bytes p → ⊥
bad_and_moves bytes o p bad moves =
    moves_or_bad moves.rest moves.at moves.moves (subst HasBadSize (one_stop bytes o moves.offset bad.0 moves.rest bad.1 moves.stop).1 bad.2)

-- moves are cut at one place only
one_moves_stop : (bytes : List ℕ) (o p : ℕ) → StopsInMoves bytes o → StopsInMoves bytes p → o ≡ p
one_moves_stop bytes o p first second =
    let same = one_stop bytes first.offset second.offset first.rest second.rest first.stop second.stop in
    let at = one_cut_place second.rest first.at second.at (subst (λ (xs : List ℕ). HasCutMoves xs first.at) same.1 first.moves) second.moves in
    omega (arith, first.place_is, second.place_is, same.0, at)

-- ---- one fault

-- bytes have at most one fault
pub one_fault : (bytes : List ℕ) (d e : FileFault) → HasFileFault bytes d → HasFileFault bytes e → d ≡ e
one_fault bytes (ShortHeader m) (ShortHeader n) p q = ap ShortHeader (p.0 ∙ sym q.0)
one_fault bytes (ShortHeader m) BadSignature p q = ⊎_elim (λ short. absurd (omega (arith, q.0))) (λ cut. absurd (bad_signature bytes cut.signed q)) p.1
one_fault bytes (ShortHeader m) (BadRuleset code) p q = ⊎_elim (λ short. absurd (omega (arith, q.0.long))) (λ cut. absurd (unknown_ruleset bytes code cut.known q)) p.1
one_fault bytes (ShortHeader m) (ShortRecord o) p q = absurd (short_header bytes m (stop_header bytes o q.0 q.1) p)
one_fault bytes (ShortHeader m) (BadSize o) p q = absurd (short_header bytes m (stop_header bytes o q.0 q.1) p)
one_fault bytes BadSignature (ShortHeader n) p q = ⊎_elim (λ short. absurd (omega (arith, p.0))) (λ cut. absurd (bad_signature bytes cut.signed p)) q.1
one_fault bytes BadSignature BadSignature p q = refl
one_fault bytes BadSignature (BadRuleset code) p q = absurd (bad_signature bytes q.0 p)
one_fault bytes BadSignature (ShortRecord o) p q = absurd (bad_signature bytes (stop_header bytes o q.0 q.1).signed p)
one_fault bytes BadSignature (BadSize o) p q = absurd (bad_signature bytes (stop_header bytes o q.0 q.1).signed p)
one_fault bytes (BadRuleset code) (ShortHeader n) p q = ⊎_elim (λ short. absurd (omega (arith, p.0.long))) (λ cut. absurd (unknown_ruleset bytes code cut.known p)) q.1
one_fault bytes (BadRuleset code) BadSignature p q = absurd (bad_signature bytes p.0 q)
one_fault bytes (BadRuleset b) (BadRuleset c) p q = ap BadRuleset (p.1 ∙ sym q.1)
one_fault bytes (BadRuleset code) (ShortRecord o) p q = absurd (unknown_ruleset bytes code (stop_header bytes o q.0 q.1).known p)
one_fault bytes (BadRuleset code) (BadSize o) p q = absurd (unknown_ruleset bytes code (stop_header bytes o q.0 q.1).known p)
one_fault bytes (ShortRecord o) (ShortHeader n) p q = absurd (short_header bytes n (stop_header bytes o p.0 p.1) q)
one_fault bytes (ShortRecord o) BadSignature p q = absurd (bad_signature bytes (stop_header bytes o p.0 p.1).signed q)
one_fault bytes (ShortRecord o) (BadRuleset code) p q = absurd (unknown_ruleset bytes code (stop_header bytes o p.0 p.1).known q)
one_fault bytes (ShortRecord m) (ShortRecord n) p q = ap ShortRecord (one_stop bytes m n p.0 q.0 p.1 q.1).0
one_fault bytes (ShortRecord m) (BadSize n) p q = absurd (cut_and_bad bytes m n p q)
one_fault bytes (BadSize o) (ShortHeader n) p q = absurd (short_header bytes n (stop_header bytes o p.0 p.1) q)
one_fault bytes (BadSize o) BadSignature p q = absurd (bad_signature bytes (stop_header bytes o p.0 p.1).signed q)
one_fault bytes (BadSize o) (BadRuleset code) p q = absurd (unknown_ruleset bytes code (stop_header bytes o p.0 p.1).known q)
one_fault bytes (BadSize m) (ShortRecord n) p q = absurd (cut_and_bad bytes n m q p)
one_fault bytes (BadSize m) (BadSize n) p q = ap BadSize (one_stop bytes m n p.0 q.0 p.1 q.1).0
one_fault bytes (ShortHeader m) (MoveCut o) p q = absurd (short_header bytes m (stop_header bytes q.offset q.rest q.stop) p)
one_fault bytes BadSignature (MoveCut o) p q = absurd (bad_signature bytes (stop_header bytes q.offset q.rest q.stop).signed p)
one_fault bytes (BadRuleset code) (MoveCut o) p q = absurd (unknown_ruleset bytes code (stop_header bytes q.offset q.rest q.stop).known p)
one_fault bytes (ShortRecord m) (MoveCut n) p q = absurd (cut_and_moves bytes m n p q)
one_fault bytes (BadSize m) (MoveCut n) p q = absurd (bad_and_moves bytes m n p q)
one_fault bytes (MoveCut o) (ShortHeader n) p q = absurd (short_header bytes n (stop_header bytes p.offset p.rest p.stop) q)
one_fault bytes (MoveCut o) BadSignature p q = absurd (bad_signature bytes (stop_header bytes p.offset p.rest p.stop).signed q)
one_fault bytes (MoveCut o) (BadRuleset code) p q = absurd (unknown_ruleset bytes code (stop_header bytes p.offset p.rest p.stop).known q)
one_fault bytes (MoveCut m) (ShortRecord n) p q = absurd (cut_and_moves bytes n m q p)
one_fault bytes (MoveCut m) (BadSize n) p q = absurd (bad_and_moves bytes n m q p)
one_fault bytes (MoveCut m) (MoveCut n) p q = ap MoveCut (one_moves_stop bytes m n p q)
one_fault bytes Memory e p q = absurd p
one_fault bytes d Memory p q = absurd q

-- ---- a text has none

-- a file's text begins with a whole header
text_header : (bytes : List ℕ) (f : File) → IsText bytes f → HasHeader bytes
text_header bytes f text = subst HasHeader (append-nil (text_of f) ∙ sym text.text) (header_of_text f [] text.fits)

-- the records of a file's text do not stop before its end
text_goes_on : (bytes : List ℕ) (f : File) (offset : ℕ) (rest : List ℕ) → IsText bytes f → StopsAt bytes offset rest → ⊥
text_goes_on bytes f offset rest text stop =
    stop.some (sym (text_parts f stop.prefix [] rest text.fits stop.fits nothing_begins stop.no_record (append-nil (text_of f) ∙ sym text.text ∙ stop.split)).1)

-- a file's text has no fault
pub text_without_fault : (bytes : List ℕ) (f : File) (e : FileFault) → IsText bytes f → HasFileFault bytes e → ⊥
text_without_fault bytes f (ShortHeader n) text fault = short_header bytes n (text_header bytes f text) fault
text_without_fault bytes f BadSignature text fault = bad_signature bytes (text_header bytes f text).signed fault
text_without_fault bytes f (BadRuleset code) text fault = unknown_ruleset bytes code (text_header bytes f text).known fault
text_without_fault bytes f (ShortRecord o) text fault = text_goes_on bytes f o fault.0 text fault.1
text_without_fault bytes f (BadSize o) text fault = text_goes_on bytes f o fault.0 text fault.1
text_without_fault bytes f (MoveCut o) text fault = text_goes_on bytes f fault.offset fault.rest text fault.stop
text_without_fault bytes f Memory text fault = fault

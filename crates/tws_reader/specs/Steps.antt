-- Definitions for the private steps of reading. Callers need none of them.
use Rattle.std.specs.Prelude.{◌≡◌, ◌≢◌, ◌⊎◌, Bool, true, false, Option, None, Some, is_some, ℕ, ◌+◌, ◌<◌, ◌≤◌, ◌^◌, List, [], ◌++◌, length, drop}
use Rattle.std.specs.List.{flat_map, AllByRecursion}
use Rattle.tws_file.specs.declared.file_fault.FileFault.{FileFault}
use Rattle.tws_file.specs.declared.file_fault.FileFault.TheVariants.{ShortHeader, BadSignature, BadRuleset, ShortRecord, BadSize, MoveCut, Memory}
use Rattle.tws_file.specs.declared.«ruleset».Ruleset.{Ruleset}
use Rattle.byte_output.specs.Bytes.{IsBytes}
use Rattle.tws_moves.specs.Spelling.{IsCutAt}
use Rattle.tws_file.specs.Text.{Solution, Record, solution, File, IsRecord, HasSolutionFields, IsFile, body_of, header_text, record_text, text_of, BeginsNoRecord}
use Rattle.tws_file.specs.Fault.{IsRecordCut, HasBadSize, HasCutMoves, HasFileFault, IsLasting}

-- the bytes are a header with these fields, followed by the rest
pub record BeginsWithHeader (bytes : List ℕ) (rules : Ruleset) (word extra rest : List ℕ) : Type 0 where
  pub split : bytes ≡ header_text rules word extra ++ rest
  pub word_bytes : IsBytes word
  pub word_length : length word ≡ 2
  pub extra_bytes : IsBytes extra
  pub extra_length : length extra < 2 ^ 8

-- the body of a solution, except that its moves, which begin at `offset`, are cut
pub record IsCutSolution (body : List ℕ) (offset place : ℕ) : Type 0 where
  pub solved : Solution
  pub at : ℕ
  pub fields : HasSolutionFields solved
  pub body_is : body_of (solution solved) ≡ body
  pub cut : IsCutAt solved.moves at
  pub place_is : place ≡ offset + at

-- no solution was read from this body, whose moves begin at `offset`
abbrev pub SolutionFails : List ℕ → ℕ → FileFault → Type 0
SolutionFails body offset (ShortHeader n) = ⊥
SolutionFails body offset BadSignature = ⊥
SolutionFails body offset (BadRuleset code) = ⊥
SolutionFails body offset (ShortRecord o) = ⊥
SolutionFails body offset (BadSize o) = ⊥
SolutionFails body offset (MoveCut place) = IsCutSolution body offset place
SolutionFails body offset Memory = Unit {0}

-- moves that begin at `offset` were not kept
abbrev pub MovesFailAt : List ℕ → ℕ → FileFault → Type 0
MovesFailAt moves offset (ShortHeader n) = ⊥
MovesFailAt moves offset BadSignature = ⊥
MovesFailAt moves offset (BadRuleset code) = ⊥
MovesFailAt moves offset (ShortRecord o) = ⊥
MovesFailAt moves offset (BadSize o) = ⊥
MovesFailAt moves offset (MoveCut place) = (at : ℕ) × IsCutAt moves at × (place ≡ offset + at)
MovesFailAt moves offset Memory = Unit {0}

-- no record was read from these bytes, which begin at `offset`
abbrev pub RecordFails : List ℕ → ℕ → FileFault → Type 0
RecordFails bytes offset (ShortRecord o) = ⊥
RecordFails bytes offset (BadSize o) = (o ≡ offset) × HasBadSize bytes
RecordFails bytes offset (MoveCut place) = (at : ℕ) × HasCutMoves bytes at × (place ≡ offset + 20 + at)
RecordFails bytes offset Memory = Unit {0}
RecordFails bytes offset (ShortHeader n) = ⊥
RecordFails bytes offset BadSignature = ⊥
RecordFails bytes offset (BadRuleset code) = ⊥

-- the bytes are the texts of records up to this offset, counted on from `start`, and a rest that begins no record
pub record StopsAfter (bytes : List ℕ) (start offset : ℕ) (rest : List ℕ) : Type 0 where
  pub prefix : List Record
  pub fits : AllByRecursion IsRecord prefix
  pub split : bytes ≡ flat_map record_text prefix ++ rest
  pub place : offset ≡ start + length (flat_map record_text prefix)
  pub some : rest ≢ []
  pub no_record : BeginsNoRecord rest

-- the records in these bytes, which begin at offset `start`, were not read
abbrev pub RecordsFail : List ℕ → ℕ → FileFault → Type 0
RecordsFail bytes start (ShortRecord o) = ⊥
RecordsFail bytes start (MoveCut place) = (o : ℕ) × (rest : List ℕ) × (at : ℕ) × StopsAfter bytes start o rest × HasCutMoves rest at × (place ≡ o + 20 + at)
RecordsFail bytes start (BadSize o) = (rest : List ℕ) × StopsAfter bytes start o rest × HasBadSize rest
RecordsFail bytes start Memory = Unit {0}
RecordsFail bytes start (ShortHeader n) = ⊥
RecordsFail bytes start BadSignature = ⊥
RecordsFail bytes start (BadRuleset code) = ⊥

-- ---- pieces

-- no file was read from these bytes, and no further ones would help
abbrev pub FailsForGood : List ℕ → FileFault → Type 0
FailsForGood bytes e = (IsLasting e × HasFileFault bytes e) ⊎ (e ≡ Memory)

-- the bytes are too short for a header
abbrev pub IsShort : List ℕ → Type 0
IsShort bytes = HasFileFault bytes (ShortHeader (length bytes))

-- the bytes that were read; none until the whole header has arrived
abbrev pub text_so_far : Option File → List ℕ
text_so_far None = []
text_so_far (Some file) = text_of file

-- what was read is a file, and ends at the offset
abbrev pub IsAt : Option File → ℕ → Type 0
IsAt None offset = offset ≡ 0
IsAt (Some file) offset = IsFile file × (offset ≡ length (text_of file))

-- nothing whole is left to read
abbrev pub IsLeft : Option File → List ℕ → Type 0
IsLeft None rest = IsShort rest
IsLeft (Some file) rest = IsRecordCut rest

-- `count` of these bytes, which begin at `offset`, were read
pub record Advances (old new : Option File) (offset : ℕ) (bytes : List ℕ) (count : ℕ) : Type 0 where
  pub within : count ≤ length bytes
  pub text : text_so_far old ++ bytes ≡ text_so_far new ++ drop count bytes
  pub at : IsAt new (offset + count)
  pub left : IsLeft new (drop count bytes)

-- ---- records that are handed out

-- the file with these records
abbrev pub with_records : File → List Record → File
with_records head records = record { «ruleset» = head.ruleset; word = head.word; extra = head.extra; records = records }

-- the file so far: the header, if it is whole, and these records
abbrev pub file_so_far : Option File → List Record → Option File
file_so_far None records = None
file_so_far (Some head) records = Some (with_records head records)

-- the bytes are the text of a file without records, and a rest
pub record BeginsWithHead (bytes : List ℕ) (head : File) (rest : List ℕ) : Type 0 where
  pub fits : IsFile (with_records head [])
  pub split : bytes ≡ text_of (with_records head []) ++ rest

-- `count` of these bytes were read, as records that were appended to a list
pub record ReadsOn (old new : List Record) (bytes : List ℕ) (count : ℕ) : Type 0 where
  pub more : List Record
  pub appended : new ≡ old ++ more
  pub fits : AllByRecursion IsRecord more
  pub within : count ≤ length bytes
  pub split : bytes ≡ flat_map record_text more ++ drop count bytes
  pub cut : IsRecordCut (drop count bytes)

-- the header as it was before the bytes in which it was read
abbrev pub header_back : Bool → Option File → Option File
header_back true head = head
header_back false head = None

-- `count` of these bytes, which begin at `offset`, were read, whichever records came before
pub record Continues (was is : Option File) (old new : List Record) (offset : ℕ) (bytes : List ℕ) (count : ℕ) : Type 0 where
  pub more : List Record
  pub appended : new ≡ old ++ more
  pub fits : AllByRecursion IsRecord more
  pub within : count ≤ length bytes
  pub some : is ≡ None → (was ≡ None) × (more ≡ [])
  pub undone : header_back (is_some was) is ≡ was
  pub step : (records : List Record) → (was ≡ None → records ≡ []) → IsAt (file_so_far was records) offset → Advances (file_so_far was records) (file_so_far is (records ++ more)) offset bytes count

-- reading these bytes, which begin at `offset`, failed, whichever records came before
abbrev pub FailsAfter : Option File → (offset : ℕ) → List ℕ → FileFault → Type 0
FailsAfter head offset bytes e =
    (records : List Record) → IsAt (file_so_far head records) offset → FailsForGood (text_so_far (file_so_far head records) ++ bytes) e

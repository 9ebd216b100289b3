-- The fault of bytes that are not a file's text. docs/FORMATS.md has the same as a table.
use Rattle.std.specs.Prelude.{◌≡◌, ◌≢◌, ◌⊎◌, ℕ, ◌+◌, ◌<◌, ◌≤◌, List, [], ◌++◌, length, slice_index, take, Result, MatchResult}
use Rattle.byteorder.specs.Endian.{little_number}
use Rattle.tws_moves.specs.Spelling.{IsCutAt}
use Rattle.tws_file.specs.declared.file_fault.FileFault.{FileFault}
use Rattle.tws_file.specs.declared.file_fault.FileFault.TheVariants.{ShortHeader, BadSignature, BadRuleset, ShortRecord, BadSize, MoveCut, Memory}
use Rattle.tws_file.specs.Fields.{signature}
use Rattle.tws_file.specs.Text.{File, Solution, solution, IsFile, HasSolutionFields, text_of, record_text, BeginsNoRecord}

-- ---- the header

-- the eight bytes that every header has, with the signature
pub record IsSigned (bytes : List ℕ) : Type 0 where
  pub long : 8 ≤ length bytes
  pub signed : take 4 bytes ≡ signature

-- no ruleset has this code
abbrev pub IsUnknownRuleset : ℕ → Type 0
IsUnknownRuleset code = (code ≢ 1) × (code ≢ 2)

-- a header whose further bytes, as many as byte 7 says, are cut
pub record IsHeaderCut (bytes : List ℕ) : Type 0 where
  pub signed : IsSigned bytes
  pub known : (slice_index bytes 4 ≡ 1) ⊎ (slice_index bytes 4 ≡ 2)
  pub cut : length bytes < 8 + slice_index bytes 7

-- ---- the records

-- The bytes are a header, the texts of records up to this offset, and a rest that is not empty and begins no record.
pub record StopsAt (bytes : List ℕ) (offset : ℕ) (rest : List ℕ) : Type 0 where
  pub prefix : File
  pub fits : IsFile prefix
  pub split : bytes ≡ text_of prefix ++ rest
  pub place : offset ≡ length (text_of prefix)
  pub some : rest ≢ []
  pub no_record : BeginsNoRecord rest

-- no record has this size
abbrev pub IsBadSize : ℕ → Type 0
IsBadSize n = (1 ≤ n) × (n ≤ 5) ⊎ (7 ≤ n) × (n ≤ 15)

abbrev pub HasBadSize : List ℕ → Type 0
HasBadSize rest = (4 ≤ length rest) × IsBadSize (little_number 4 rest)

-- the size field is cut, or the body that it announces
abbrev pub IsRecordCut : List ℕ → Type 0
IsRecordCut rest = (length rest < 4) ⊎ ((4 ≤ length rest) × ¬ IsBadSize (little_number 4 rest) × (length rest < 4 + little_number 4 rest))

-- The bytes begin with a solution's text, except that its moves are cut, at this place in them.
pub record HasCutMoves (bytes : List ℕ) (at : ℕ) : Type 0 where
  pub solved : Solution
  pub more : List ℕ
  pub fields : HasSolutionFields solved
  pub split : bytes ≡ record_text (solution solved) ++ more
  pub cut : IsCutAt solved.moves at

-- The records stop before a solution whose moves are cut, at this place in the bytes: they come after four bytes of
-- size and sixteen of fields.
pub record StopsInMoves (bytes : List ℕ) (place : ℕ) : Type 0 where
  pub offset : ℕ
  pub rest : List ℕ
  pub at : ℕ
  pub stop : StopsAt bytes offset rest
  pub moves : HasCutMoves rest at
  pub place_is : place ≡ offset + 20 + at

-- ---- the fault

abbrev pub HasFileFault : List ℕ → FileFault → Type 0
HasFileFault bytes (ShortHeader n) = (n ≡ length bytes) × ((length bytes < 8) ⊎ IsHeaderCut bytes)
HasFileFault bytes BadSignature = (8 ≤ length bytes) × (take 4 bytes ≢ signature)
HasFileFault bytes (BadRuleset code) = IsSigned bytes × (code ≡ slice_index bytes 4) × IsUnknownRuleset code
HasFileFault bytes (ShortRecord offset) = (rest : List ℕ) × StopsAt bytes offset rest × IsRecordCut rest
HasFileFault bytes (BadSize offset) = (rest : List ℕ) × StopsAt bytes offset rest × HasBadSize rest
HasFileFault bytes (MoveCut place) = StopsInMoves bytes place
-- running out of memory is not a fault of the bytes
HasFileFault bytes Memory = ⊥

-- a fault that no further bytes can cure
abbrev pub IsLasting : FileFault → Type 0
IsLasting (ShortHeader n) = ⊥
IsLasting BadSignature = Unit {0}
IsLasting (BadRuleset code) = Unit {0}
IsLasting (ShortRecord offset) = ⊥
IsLasting (BadSize offset) = Unit {0}
IsLasting (MoveCut place) = Unit {0}
IsLasting Memory = ⊥

-- a failed read: the fault of the bytes, or out of memory
abbrev pub FailsWith : List ℕ → FileFault → Type 0
FailsWith bytes e = HasFileFault bytes e ⊎ (e ≡ Memory)

-- a read that returned this file, or ran out of memory
abbrev pub IsReadAs : File → Result File FileFault → Type 0
IsReadAs file answer = MatchResult answer (λ f. f ≡ file) (λ e. e ≡ Memory)

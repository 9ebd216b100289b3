-- Reading a file that arrives piece by piece.
use Rattle.std.specs.Prelude.{◌≡◌, ℕ, ◌+◌, ◌<◌, ◌≤◌, ◌^◌, List, ◌++◌, length, Option, None, Some, Result, Ok, Err}
use Rattle.tws_file.specs.declared.file_fault.FileFault.{FileFault}
use Rattle.tws_file.specs.declared.file_fault.FileFault.TheVariants.{ShortHeader, BadSignature, BadRuleset, ShortRecord, BadSize, MoveCut, Memory}
use Rattle.tws_reader.specs.declared.reader.Reader.TheInside.{Inside}
use Rattle.tws_file.specs.Text.{File, IsText}
use Rattle.tws_file.specs.Fault.{HasFileFault, IsLasting}
use Rattle.tws_reader.specs.PartReader.{HasRead}
use Rattle.tws_reader.specs.Steps.{text_so_far, file_so_far}

pub data Reading : Type 0 where
  -- these bytes have arrived
  reading : (bytes : List ℕ) → Reading
  -- the bytes that arrived had this fault
  stopped : (fault : FileFault) → Reading

-- these bytes have arrived, in pieces of any sizes
abbrev pub HasTaken : Reading → List ℕ → Type 0
HasTaken (reading xs) bytes = xs ≡ bytes
HasTaken (stopped fault) bytes = IsLasting fault × HasFileFault bytes fault

-- ---- the calls

-- the condition of a push: all bytes together can be counted
abbrev pub HasRoomFor : Reading → List ℕ → Type 0
HasRoomFor (reading bytes) piece = length bytes + length piece < 2 ^ 64
HasRoomFor (stopped fault) piece = Unit {0}

-- at most `n` bytes have arrived
abbrev pub HasAtMost : Reading → ℕ → Type 0
HasAtMost (reading bytes) n = length bytes ≤ n
HasAtMost (stopped fault) n = Unit {0}

-- a further piece, after these bytes, fails with this fault
abbrev pub PushFails : List ℕ → List ℕ → FileFault → Reading → Type 0
PushFails bytes piece Memory new = new ≡ reading bytes
PushFails bytes piece (ShortHeader n) new = ⊥
PushFails bytes piece (ShortRecord offset) new = ⊥
PushFails bytes piece BadSignature new = (new ≡ stopped BadSignature) × HasFileFault (bytes ++ piece) BadSignature
PushFails bytes piece (BadRuleset code) new = (new ≡ stopped (BadRuleset code)) × HasFileFault (bytes ++ piece) (BadRuleset code)
PushFails bytes piece (BadSize offset) new = (new ≡ stopped (BadSize offset)) × HasFileFault (bytes ++ piece) (BadSize offset)
PushFails bytes piece (MoveCut place) new = (new ≡ stopped (MoveCut place)) × HasFileFault (bytes ++ piece) (MoveCut place)

abbrev pub Pushes : Reading → List ℕ → Result (Unit {0}) FileFault → Reading → Type 0
Pushes (reading bytes) piece (Ok done) new = new ≡ reading (bytes ++ piece)
Pushes (reading bytes) piece (Err e) new = PushFails bytes piece e new
Pushes (stopped fault) piece result new = (result ≡ Err fault) × (new ≡ stopped fault)

-- the piece was taken, unless an allocation was refused
abbrev pub TakesPiece : Result (Unit {0}) FileFault → List ℕ → Reading → Type 0
TakesPiece (Ok done) bytes new = HasTaken new bytes
TakesPiece (Err (ShortHeader n)) bytes new = HasTaken new bytes
TakesPiece (Err BadSignature) bytes new = HasTaken new bytes
TakesPiece (Err (BadRuleset code)) bytes new = HasTaken new bytes
TakesPiece (Err (ShortRecord offset)) bytes new = HasTaken new bytes
TakesPiece (Err (BadSize offset)) bytes new = HasTaken new bytes
TakesPiece (Err (MoveCut place)) bytes new = HasTaken new bytes
TakesPiece (Err Memory) bytes new = Unit {0}

-- what reading all the bytes returns
abbrev pub IsAnswer : List ℕ → Result File FileFault → Type 0
IsAnswer bytes (Ok file) = IsText bytes file
IsAnswer bytes (Err e) = HasFileFault bytes e

-- the bytes that arrived have no lasting fault
abbrev pub HasNoLasting : Reading → Type 0
HasNoLasting (reading bytes) = (e : FileFault) → IsLasting e → HasFileFault bytes e → ⊥
HasNoLasting (stopped fault) = ⊥

abbrev pub Finishes : Reading → Result File FileFault → Type 0
Finishes (reading bytes) result = IsAnswer bytes result
Finishes (stopped fault) result = result ≡ Err fault

-- ---- what a reader keeps

-- from the fault that a reader keeps, what it has read, and the bytes after that
abbrev pub reading_from : Option FileFault → Option File → List ℕ → Reading
reading_from (Some fault) so_far rest = stopped fault
reading_from None so_far rest = reading (text_so_far so_far ++ rest)

abbrev pub reading_of : {A : Type 0} → Inside A → Reading
reading_of r = reading_from r.parts.fault (file_so_far r.parts.head r.records) r.parts.rest

abbrev pub KeepsLasting : Option FileFault → Type 0
KeepsLasting None = Unit {0}
KeepsLasting (Some fault) = IsLasting fault

-- without a fault, the reader in parts has handed out these records
pub record IsReader {A : Type 0} (r : Inside A) : Type 0 where
  pub fault : KeepsLasting r.parts.fault
  pub read : r.parts.fault ≡ None → HasRead r.parts r.records (text_so_far (file_so_far r.parts.head r.records) ++ r.parts.rest)

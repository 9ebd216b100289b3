-- Reading a file whose records are handed out as they become whole.
use Rattle.std.specs.Prelude.{◌≡◌, ℕ, ◌+◌, ◌<◌, ◌^◌, List, [], ◌++◌, length, Option, None, Some, Result, Ok, Err}
use Rattle.std.specs.List.{AllByRecursion}
use Rattle.tws_file.specs.declared.file_fault.FileFault.{FileFault}
use Rattle.tws_reader.specs.declared.part_reader.PartReader.TheInside.{Inside}
use Rattle.tws_file.specs.Text.{File, Record, IsRecord, IsText}
use Rattle.tws_file.specs.Fault.{HasFileFault, IsLasting}
use Rattle.tws_reader.specs.Steps.{IsAt, IsLeft, text_so_far, file_so_far, with_records}

-- what a reader in parts keeps
pub record PartReading : Type 0 where
  -- the fault of the bytes, which no further bytes can cure
  pub fault : Option FileFault
  -- the header, if it is whole, as a file without records
  pub head : Option File
  -- how many bytes were read
  pub offset : ℕ
  -- the bytes after those, in which nothing is whole
  pub rest : List ℕ

-- nothing has arrived
abbrev pub nothing_read : PartReading
nothing_read = record { fault = None; head = None; offset = 0; rest = [] }

-- the bytes had this fault
abbrev pub failed : FileFault → PartReading
failed fault = record { fault = Some fault; head = None; offset = 0; rest = [] }

-- The bytes are the header, if it is whole, with these records, and a rest in which nothing is whole.
pub record IsReadTo (head : Option File) (offset : ℕ) (rest : List ℕ) (records : List Record) (bytes : List ℕ) : Type 0 where
  pub some : head ≡ None → records ≡ []
  pub at : IsAt (file_so_far head records) offset
  pub text : text_so_far (file_so_far head records) ++ rest ≡ bytes
  pub left : IsLeft head rest

abbrev pub HasReadUnless : Option FileFault → PartReading → List Record → List ℕ → Type 0
HasReadUnless None p records bytes = IsReadTo p.head p.offset p.rest records bytes
HasReadUnless (Some fault) p records bytes = IsLasting fault × HasFileFault bytes fault

-- These bytes have arrived, in pieces of any sizes, and these are the records that were handed out.
abbrev pub HasRead : PartReading → List Record → List ℕ → Type 0
HasRead p records bytes = HasReadUnless p.fault p records bytes

-- ---- the calls

abbrev pub FitsUnless : Option FileFault → ℕ → Type 0
FitsUnless None n = n < 2 ^ 64
FitsUnless (Some fault) n = Unit {0}

-- the condition of a push: all bytes together can be counted
abbrev pub HasRoom : PartReading → List ℕ → Type 0
HasRoom p piece = FitsUnless p.fault (p.offset + length p.rest + length piece)

-- after a piece, and the records that it completed
abbrev pub HandsOut : (old : PartReading) → (piece : List ℕ) → (more : List Record) → (new : PartReading) → Type 0
HandsOut old piece more new =
    (records : List Record) (bytes : List ℕ) → HasRead old records bytes → HasRead new (records ++ more) (bytes ++ piece)

-- the bytes with this piece had this fault, which is kept
pub record FailsPart (old : PartReading) (piece : List ℕ) (new : PartReading) (fault : FileFault) : Type 0 where
  pub kept : new.fault ≡ Some fault
  pub hands_out : HandsOut old piece [] new

-- a push that appends to a list of records
pub record AppendsPart (old new : PartReading) (piece : List ℕ) (before after : List Record) : Type 0 where
  pub more : List Record
  pub appended : after ≡ before ++ more
  pub fits : AllByRecursion IsRecord more
  pub was : old.fault ≡ None
  pub is : new.fault ≡ None
  pub hands_out : HandsOut old piece more new

-- what the reader has to say of the bytes at their end: the file's header, or their fault
abbrev pub IsEnd : List Record → List ℕ → Result File FileFault → Type 0
IsEnd records bytes (Ok head) = IsText bytes (with_records head records)
IsEnd records bytes (Err e) = HasFileFault bytes e

-- the bytes are those of a file with these records
pub record IsTextWith (records : List Record) (bytes : List ℕ) : Type 0 where
  pub head : File
  pub text : IsText bytes (with_records head records)

-- the same without the header
abbrev pub IsWhole : List Record → List ℕ → Result (Unit {0}) FileFault → Type 0
IsWhole records bytes (Ok done) = IsTextWith records bytes
IsWhole records bytes (Err e) = HasFileFault bytes e

-- ---- its layout

abbrev pub part_reading_of : {A : Type 0} → Inside A → PartReading
part_reading_of r = record { fault = r.fault; head = r.header; offset = r.offset; rest = r.rest.items }

-- What a solution file is: the values that have a text, and the text of each.
-- The layout is that of the comments on solution files in Tile World; docs/FORMATS.md has it as tables.
use Rattle.std.specs.Prelude.{◌≡◌, ◌≢◌, ◌⊎◌, ℕ, ◌+◌, ◌<◌, ◌≤◌, ◌^◌, List, [], ◌∷◌, ◌++◌, length}
use Rattle.std.specs.List.{flat_map, AllByRecursion}
use Rattle.byteorder.specs.Endian.{little_bytes}
use Rattle.tws_file.specs.declared.key.Key.{Key}
use Rattle.tws_file.specs.declared.«ruleset».Ruleset.{Ruleset}
use Rattle.byte_output.specs.Bytes.{IsBytes}
use Rattle.tws_moves.specs.Spelling.{IsSpelling}
use Rattle.tws_file.specs.Fields.{IsKey, signature, ruleset_code, set_key, key_bytes}

-- how a level was solved
pub record Solution : Type 0 where
  pub key : Key
  pub flags : ℕ
  pub start : ℕ
  pub seed : ℕ
  pub ticks : ℕ
  pub moves : List ℕ

pub data Record : Type 0 where
  pad : Record
  -- what follows the key of the set: its name, as Tile World writes it
  set : (rest : List ℕ) → Record
  -- a level with its password, and no solution
  bare : (key : Key) → Record
  solution : (s : Solution) → Record

pub record File : Type 0 where
  pub «ruleset» : Ruleset
  -- bytes 5 and 6
  pub word : List ℕ
  -- the further header bytes
  pub extra : List ℕ
  pub records : List Record

-- ---- the text

abbrev pub body_of : Record → List ℕ
body_of pad = []
body_of (set rest) = key_bytes set_key ++ rest
body_of (bare key) = key_bytes key
body_of (solution s) = key_bytes s.key ++ (s.flags ∷ s.start ∷ (little_bytes 4 s.seed ++ (little_bytes 4 s.ticks ++ s.moves)))

-- the size in four bytes, and the body
abbrev pub record_text : Record → List ℕ
record_text r = little_bytes 4 (length (body_of r)) ++ body_of r

abbrev pub header_text : Ruleset → List ℕ → List ℕ → List ℕ
header_text rules word extra = signature ++ (ruleset_code rules ∷ (word ++ (length extra ∷ extra)))

abbrev pub text_of : File → List ℕ
text_of file = header_text file.ruleset file.word file.extra ++ flat_map record_text file.records

-- ---- which values have a text

-- a key that names a level
pub record IsLevel (key : Key) : Type 0 where
  pub fits : IsKey key
  pub named : key ≢ set_key

-- the fields of a solution fit, whatever its moves are
pub record HasSolutionFields (s : Solution) : Type 0 where
  pub key : IsLevel s.key
  pub flags : s.flags < 2 ^ 8
  pub start : s.start < 2 ^ 8
  pub seed : s.seed < 2 ^ 32
  pub ticks : s.ticks < 2 ^ 32
  pub bytes : IsBytes s.moves
  -- the body has at least 16 bytes, and its size fits in four
  pub size : 16 + length s.moves < 2 ^ 32

pub record IsSolution (s : Solution) : Type 0 where
  pub fields : HasSolutionFields s
  -- no move is cut
  pub whole : IsSpelling s.moves

-- a record of the set has only the key, or at least ten more bytes
pub record IsSet (rest : List ℕ) : Type 0 where
  pub bytes : IsBytes rest
  pub long : (rest ≡ []) ⊎ (10 ≤ length rest)
  pub size : 6 + length rest < 2 ^ 32

abbrev pub IsRecord : Record → Type 0
IsRecord pad = Unit {0}
IsRecord (set rest) = IsSet rest
IsRecord (bare key) = IsLevel key
IsRecord (solution s) = IsSolution s

pub record IsFile (file : File) : Type 0 where
  pub word : IsBytes file.word
  pub word_length : length file.word ≡ 2
  pub extra : IsBytes file.extra
  pub extra_length : length file.extra < 2 ^ 8
  pub records : AllByRecursion IsRecord file.records

-- the bytes are this file's text
pub record IsText (bytes : List ℕ) (file : File) : Type 0 where
  pub fits : IsFile file
  pub text : bytes ≡ text_of file

abbrev pub IsReadable : List ℕ → Type 0
IsReadable bytes = (file : File) × IsText bytes file

-- no prefix of the bytes is the text of a record
abbrev pub BeginsNoRecord : List ℕ → Type 0
BeginsNoRecord bytes = (r : Record) (more : List ℕ) → IsRecord r → bytes ≢ record_text r ++ more

-- The name of the level set of a file, which Tile World keeps in the file's first record.
use Rattle.std.specs.Prelude.{ℕ, ◌==◌, Option, None, Some, List, [], ◌∷◌, map, take, drop, if◌then◌else◌}
use Rattle.std.specs.List.{before_first}
use Rattle.tws_file.specs.Text.{File, Record, pad, set, bare, solution}
use Rattle.tws_pages.specs.declared.level_set.TheConstants.{NAME_AT, SHOWN_NAME}
use Rattle.tws_pages.specs.Escaping.{is_printable}

-- the bytes before the first zero byte, or all
abbrev pub before_zero : List ℕ → List ℕ
before_zero bytes = before_first (λ b. b == 0) bytes

-- the name in a set record, which may be empty; other records have none
abbrev pub name_in : Record → List ℕ
name_in pad = []
name_in (set rest) = before_zero (drop NAME_AT rest)
name_in (bare key) = []
name_in (solution s) = []

abbrev pub unless_empty : List ℕ → Option (List ℕ)
unless_empty [] = None
unless_empty (b ∷ name) = Some (b ∷ name)

-- the name in the first of these records
abbrev pub first_name : List Record → Option (List ℕ)
first_name [] = None
first_name (first ∷ rest) = unless_empty (name_in first)

abbrev pub set_name_of : File → Option (List ℕ)
set_name_of file = first_name file.records

-- ---- a name as it is shown

-- a byte that is not printable ASCII is shown as `?`
abbrev pub shown_byte : ℕ → ℕ
shown_byte b = if is_printable b then b else 63

-- not more of a long name than this
abbrev pub shown_name : List ℕ → List ℕ
shown_name name = map shown_byte (take SHOWN_NAME name)

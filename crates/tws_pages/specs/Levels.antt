-- A list of the levels of a set: comma-separated values with a line for each level, of its number, password, name and time
-- limit in seconds.
use Rattle.std.specs.Prelude.{ℕ, ◌+◌, ◌*◌, ◌-◌, ◌==◌, ◌&&◌, ◌||◌, nat_le, min, not, Option, None, Some, List, [], map, length, unwrap_or, option_to_list, if◌then◌else◌}
use Rattle.std.specs.List.{flat_map, fold, list_all}
use Rattle.std.specs.Option.{option_map_or}
use Rattle.std.specs.Char.{is_ascii_digit}
use Rattle.std.specs.Str.Lines.{lines}
use Rattle.csv.specs.Machine.{next_record}
use Rattle.csv.specs.Reading.{default_config, strip_bom}
use Rattle.csv.specs.Records.{field_at, trimmed}
use Rattle.csv.specs.declared.parser.State.TheVariants as st
use Rattle.tws_file.specs.declared.key.Key.{Key}
use Rattle.tws_pages.specs.declared.level.Level.{Level}
use Rattle.tws_pages.specs.declared.level_list.TheConstants.{MOST}

-- the fields of a line, as the library `csv` reads them, without white space around each
abbrev pub fields_in : List ℕ → List (List ℕ)
fields_in line = option_map_or (λ read. map trimmed read.0) (next_record default_config st.StartRecord [] [] (strip_bom line)) []

-- the field at a place, empty where a line has fewer
abbrev pub field : List (List ℕ) → ℕ → List ℕ
field fields place = unwrap_or (field_at fields place) []

-- ---- numbers

-- a larger number counts as the greatest
abbrev pub with_digit : ℕ → ℕ → ℕ
with_digit value digit = min (value * 10 + (digit - 48)) MOST

abbrev pub value_of : List ℕ → ℕ
value_of digits = fold with_digit 0 digits

-- digits, at least one
abbrev pub number_in : List ℕ → Option ℕ
number_in text = if (length text == 0) || not (list_all is_ascii_digit text) then None else Some (value_of text)

-- ---- levels

-- the key of these texts, if they are a number that a level can have and a password of four bytes
abbrev pub key_from : (number : ℕ) → (password : List ℕ) → Option Key
key_from number password = if nat_le number 65535 && (length password == 4) then Some (record { number = number; password = password }) else None

abbrev pub key_of : Option ℕ → (password : List ℕ) → Option Key
key_of None password = None
key_of (Some number) password = key_from number password

-- the level of a line with these fields; without a limit it has none
abbrev pub level_with : List (List ℕ) → Option Key → Option Level
level_with fields None = None
level_with fields (Some key) = Some (record { key = key; name = field fields 2; limit = unwrap_or (number_in (field fields 3)) 0 })

abbrev pub level_of : List (List ℕ) → Option Level
level_of fields = level_with fields (key_of (number_in (field fields 0)) (field fields 1))

-- a line that has no level says nothing
abbrev pub level_in : List ℕ → List Level
level_in line = option_to_list (level_of (fields_in line))

abbrev pub levels_in : List ℕ → List Level
levels_in text = flat_map level_in (lines text)

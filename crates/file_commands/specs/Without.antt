-- The command `without`.
use Rattle.std.specs.Prelude.{◌≡◌, ◌≤◌, ◌⊎◌, ℕ, zero, suc, true, List, [], ◌++◌, Option, Some, None, option_map, string_bytes, codes, count_by}
use Rattle.std.specs.Str.Parse.{IsNumeral, digits_value, without_leading_plus}
use Rattle.clap.specs.Words.{App, Row, Rule, Text, first_of, new_app, new_rule, with_rule}
use Rattle.clap.specs.declared.builder.value_parser.ValueParser.TheVariants as parser
use Rattle.tws_compare.specs.Password.{IsShown}
use Rattle.tws_compare.specs.Without.{solves, text_without}
use Rattle.tws_file.specs.declared.key.Key.{Key}
use Rattle.tws_file.specs.Text.{File}
use Rattle.tws_file.specs.Words.{key_text, line}
use Rattle.show_commands.specs.Output.{output_rule}
use Rattle.file_commands.specs.declared.without.WithoutArguments.{WithoutArguments}
use Rattle.command_line.specs.Arguments.{HasSource, source_rule}
use Rattle.command_line.specs.Inputs.{known_of}
use Rattle.show_commands.specs.Saying.{SaysOf}
use Rattle.show_commands.specs.Written.{RanFrom}

abbrev pub without_name : Text
without_name = codes "without"

-- `LEVEL`
abbrev pub level_rule : Rule
level_rule = record (new_rule (codes "level")) { value_names = 1; parser = Some (parser.Unsigned 0 65535); required = true }

-- `PASSWORD`
abbrev pub password_rule : Rule
password_rule = record (new_rule (codes "password")) { value_names = 1; required = true }

-- without `--output`
abbrev pub removing_app : App
removing_app = with_rule (with_rule (with_rule (new_app without_name) level_rule) password_rule) source_rule

-- `without [-o FILE] LEVEL PASSWORD [FILE]`
abbrev pub without_app : App
without_app = with_rule removing_app output_rule

-- the text is this number, as a record has it: 0 too, which no level has
pub record IsLevelNumber (text : Text) (n : ℕ) : Type 0 where
  pub numeral : IsNumeral 10 (without_leading_plus text)
  pub value : n ≡ digits_value 10 (without_leading_plus text)
  pub greatest : n ≤ 65535

-- what was given is a level's number
abbrev pub IsLevel : Option Text → ℕ → Type 0
IsLevel (Some text) number = IsLevelNumber text number
IsLevel None number = ⊥

-- what was found for its arguments
pub record AsksForWithout (rows : List Row) (arguments : WithoutArguments) : Type 0 where
  pub level_is : IsLevel (first_of level_rule.id rows) arguments.level
  pub password_is : first_of password_rule.id rows ≡ Some (string_bytes arguments.password)
  pub source_is : HasSource rows arguments.source
  pub output_is : option_map string_bytes arguments.output ≡ first_of output_rule.id rows

-- the text is no password, and nothing was read or written
pub record HasNoPassword (Unread : Type 0) (text : Text) (status : ℕ) (old new : Option (List ℕ)) : Type 0 where
  pub none : (password : List ℕ) → IsShown text password → ⊥
  pub status_is : status ≡ 1
  pub unread : Unread
  pub unwritten : new ≡ old

-- What it did, by the exit status, given what is known of the bytes of the file with each name, and what holds if
-- standard input was not read: what standard input had and has left, and the output before and after.
abbrev pub WithoutRan : (bytes_of : List ℕ → Option (List ℕ)) → (Unread : Type 0) → WithoutArguments → (status : ℕ) → (known left old new : Option (List ℕ)) → Type 0
WithoutRan bytes_of Unread arguments status known left old new =
    ((password : List ℕ) × IsShown (string_bytes arguments.password) password × RanFrom arguments.source bytes_of Unread (text_without (record { number = arguments.level; password = password })) status known left old new)
    ⊎ HasNoPassword Unread (string_bytes arguments.password) status old new

-- ---- what it said

-- a file has no solution of this level
abbrev pub no_solution : Key → List ℕ
no_solution key = codes "tws: no solution of level " ++ line (key_text key)

-- what is said of a file with so many
abbrev pub count_note : (count : ℕ) → Key → List ℕ
count_note zero key = no_solution key
count_note (suc count) key = []

abbrev pub removal_note : Key → File → List ℕ
removal_note key file = count_note (count_by (solves key) file.records) key

-- What it said at status 0, given what is known of the bytes of the file with each name and of standard input, and what holds
-- if it said nothing: what standard error had before, and has.
abbrev pub WithoutSaid : (bytes_of : List ℕ → Option (List ℕ)) → (given : Option (List ℕ)) → (Silent : Type 0) → WithoutArguments → (old new : Option (List ℕ)) → Type 0
WithoutSaid bytes_of given Silent arguments old new =
    (password : List ℕ) × IsShown (string_bytes arguments.password) password
    × SaysOf (removal_note (record { number = arguments.level; password = password })) Silent (known_of bytes_of given arguments.source) old new

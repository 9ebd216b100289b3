-- The command `show`.
use Rattle.std.specs.Prelude.{◌≡◌, ℕ, false, List, [], ◌∷◌, ◌++◌, Option, Some, codes, if◌then◌else◌, option_map, string_bytes, unwrap_or}
use Rattle.std.specs.List.{flat_map, zip}
use Rattle.std.specs.Io.KnownBytes.{Appends}
use Rattle.clap.specs.Walk.{all_of}
use Rattle.clap.specs.Words.{App, Row, Rule, Text, first_of, new_app, new_rule, with_rule}
use Rattle.clap.specs.declared.builder.action.ArgAction.TheVariants.{SetTrue}
use Rattle.tws_tables.specs.Listing.{listing_of}
use Rattle.tws_file.specs.Text.{File}
use Rattle.tws_file.specs.Words.{line}
use Rattle.byte_output.specs.Output.{AppendsPrefix}
use Rattle.tws_tables.specs.Csv.{csv_of}
use Rattle.show_commands.specs.declared.show.ShowArguments.{ShowArguments}
use Rattle.command_line.specs.declared.source.Source.{Source}
use Rattle.command_line.specs.declared.source.Source.TheVariants.{Standard, Named}
use Rattle.command_line.specs.Arguments.{AreSources, HasFlag, files_rule}
use Rattle.show_commands.specs.Output.{output_rule}
use Rattle.show_commands.specs.Written.{RanFrom}
use Rattle.show_commands.specs.SeveralInputs.{AreFiles, FilesRanFrom}

abbrev pub show_name : Text
show_name = codes "show"

abbrev pub moves_rule : Rule
moves_rule = record (new_rule (codes "moves")) { long = Some (codes "moves"); action = Some SetTrue }

abbrev pub csv_rule : Rule
csv_rule = record (new_rule (codes "csv")) { long = Some (codes "csv"); action = Some SetTrue }

-- `[FILE..]`
abbrev pub shown_rule : Rule
shown_rule = record files_rule { required = false }

-- without `--output`
abbrev pub listing_app : App
listing_app = with_rule (with_rule (with_rule (new_app show_name) shown_rule) moves_rule) csv_rule

-- `show [--moves] [--csv] [-o FILE] [FILE..]`
abbrev pub show_app : App
show_app = with_rule listing_app output_rule

-- the inputs of these names, in order; standard input if none is named
abbrev pub AreShown : (names : List Text) → List Source → Type 0
AreShown [] sources = sources ≡ Standard ∷ []
AreShown (name ∷ names) sources = AreSources (name ∷ names) sources

-- what was found for its arguments
pub record AsksToShow (rows : List Row) (arguments : ShowArguments) : Type 0 where
  pub files_are : AreShown (unwrap_or (all_of shown_rule.id rows) []) arguments.files.items
  pub moves_are : HasFlag moves_rule rows arguments.moves
  pub csv_is : HasFlag csv_rule rows arguments.csv
  pub output_is : option_map string_bytes arguments.output ≡ first_of output_rule.id rows

-- the text of a file that is asked for: `--moves` changes nothing about comma-separated values
unfoldable pub shown_text : ShowArguments → File → List ℕ
shown_text arguments = if arguments.csv then csv_of else listing_of arguments.moves

-- ---- several files

-- the name of an input, as it is given
abbrev pub name_of : Source → Text
name_of Standard = codes "-"
name_of (Named name) = string_bytes name

-- the text of a file after the first: its name on a line of its own, and then its text
abbrev pub later_text : ShowArguments → Source × File → List ℕ
later_text arguments shown = line (codes "file " ++ name_of shown.0) ++ shown_text arguments shown.1

-- the text of these files
abbrev pub files_text : ShowArguments → List (Source × File) → List ℕ
files_text arguments [] = []
files_text arguments (first ∷ later) = shown_text arguments first.1 ++ flat_map (later_text arguments) later

-- the text of the files in all inputs was written
abbrev pub ShowWrites : ShowArguments → List (Option (List ℕ)) → (old new : Option (List ℕ)) → Type 0
ShowWrites arguments knowns old new = (files : List File) × AreFiles knowns files × Appends old new (files_text arguments (zip arguments.files.items files))

-- a proper prefix of it was written
abbrev pub ShowPrefix : ShowArguments → List (Option (List ℕ)) → (old new : Option (List ℕ)) → Type 0
ShowPrefix arguments knowns old new = (files : List File) × AreFiles knowns files × AppendsPrefix old new (files_text arguments (zip arguments.files.items files))

-- ---- what it did

-- what it did over these inputs: to one, what a command of one input does
abbrev pub ShowRanFrom : List Source → (bytes_of : List ℕ → Option (List ℕ)) → (Unread : Type 0) → ShowArguments → (status : ℕ) → (known left old new : Option (List ℕ)) → Type 0
ShowRanFrom [] bytes_of Unread arguments status known left old new = FilesRanFrom [] bytes_of Unread (ShowWrites arguments) (ShowPrefix arguments) status known left old new
ShowRanFrom (source ∷ []) bytes_of Unread arguments status known left old new = RanFrom source bytes_of Unread (shown_text arguments) status known left old new
ShowRanFrom (source ∷ other ∷ sources) bytes_of Unread arguments status known left old new = FilesRanFrom (source ∷ other ∷ sources) bytes_of Unread (ShowWrites arguments) (ShowPrefix arguments) status known left old new

-- What it did, by the exit status, given what is known of the bytes of the file with each name, and what holds if
-- standard input was not read: what standard input had and has left, and the output before and after.
abbrev pub ShowRan : (bytes_of : List ℕ → Option (List ℕ)) → (Unread : Type 0) → ShowArguments → (status : ℕ) → (known left old new : Option (List ℕ)) → Type 0
ShowRan bytes_of Unread arguments status known left old new = ShowRanFrom arguments.files.items bytes_of Unread arguments status known left old new

-- The command `best`, which writes the collection over all its inputs.
use Rattle.std.specs.Prelude.{◌≡◌, ◌⊎◌, ℕ, List, Option, codes, option_map, string_bytes}
use Rattle.std.specs.List.{AllByRecursion}
use Rattle.std.specs.Io.KnownBytes.{Appends}
use Rattle.clap.specs.Words.{App, Row, Text, first_of, new_app, with_rule}
use Rattle.tws_file.specs.declared.«ruleset».Ruleset.{Ruleset}
use Rattle.tws_file.specs.Text.{IsReadable}
use Rattle.byte_output.specs.Output.{AppendsPrefix}
use Rattle.tws_best.specs.Best.{Collected, IsCollectionOf, collection_text}
use Rattle.command_line.specs.declared.tool_fault.ToolFault.{ToolFault}
use Rattle.command_line.specs.declared.source.Source.{Source}
use Rattle.command_line.specs.Inputs.{knowns_of}
use Rattle.command_line.specs.Arguments.{HasRuleset, HasSources, RulesetNames, files_rule, ruleset_rule}
use Rattle.show_commands.specs.Output.{output_rule}
use Rattle.file_commands.specs.declared.best.BestArguments.{BestArguments}
use Rattle.show_commands.specs.Saying.{SaysOfFiles}
use Rattle.show_commands.specs.SeveralInputs.{AreReported, FilesFail, FilesRanFrom}
use Rattle.file_commands.specs.BestFiles.{AreInputs}
use Rattle.file_commands.specs.Notes.{files_note}

abbrev pub best_name : Text
best_name = codes "best"

-- `best [-o FILE] RULESET FILE..`
abbrev pub best_app : RulesetNames → App
best_app names = with_rule (with_rule (with_rule (new_app best_name) (ruleset_rule names)) files_rule) output_rule

-- what was found for its arguments
pub record AsksForBest (rows : List Row) (arguments : BestArguments) : Type 0 where
  pub rules_are : HasRuleset rows arguments.ruleset
  pub files_are : HasSources rows arguments.files.items
  pub output_is : option_map string_bytes arguments.output ≡ first_of output_rule.id rows

-- ---- what it writes

-- all inputs are texts of files, and this is the collection over them
pub record Collects (rules : Ruleset) (knowns : List (Option (List ℕ))) (c : Collected) : Type 0 where
  pub readable : (texts : List (List ℕ)) → AreReported knowns texts → AllByRecursion IsReadable texts
  pub best : (texts : List (List ℕ)) → AreReported knowns texts → IsCollectionOf rules texts c

-- the collection over all inputs was written
abbrev pub BestWrites : Ruleset → List (Option (List ℕ)) → (old new : Option (List ℕ)) → Type 0
BestWrites rules knowns old new = (c : Collected) × Collects rules knowns c × Appends old new (collection_text c)

-- a proper prefix of it was written
abbrev pub BestPrefix : Ruleset → List (Option (List ℕ)) → (old new : Option (List ℕ)) → Type 0
BestPrefix rules knowns old new = (c : Collected) × Collects rules knowns c × AppendsPrefix old new (collection_text c)

abbrev pub BestFails : Ruleset → List (Option (List ℕ)) → (old new : Option (List ℕ)) → ToolFault → Type 0
BestFails rules knowns old new = FilesFail (BestPrefix rules knowns old new) knowns old new

-- it ran over the inputs for which its arguments stand
pub record RanOverInputs (below_of : List ℕ → Option (Option (List (List ℕ)))) (bytes_of : List ℕ → Option (List ℕ)) (Unread : Type 0) (arguments : BestArguments) (status : ℕ) (given left old new : Option (List ℕ)) : Type 0 where
  pub sources : List Source
  pub count : ℕ
  pub are : AreInputs below_of arguments.files.items sources count
  pub ran : FilesRanFrom sources bytes_of Unread (BestWrites arguments.ruleset) (BestPrefix arguments.ruleset) status given left old new

-- a folder could not be listed, or memory was refused before anything was read
pub record FindsNoInputs (Unread : Type 0) (status : ℕ) (old new : Option (List ℕ)) : Type 0 where
  pub status_is : status ≡ 2
  pub unread : Unread
  pub unwritten : new ≡ old

-- What it did, by the exit status, given what is known of the files below each folder, and of the bytes of the file with each
-- name, and what holds if standard input was not read: what standard input had and has left, and the output before and after.
abbrev pub BestRan : (below_of : List ℕ → Option (Option (List (List ℕ)))) → (bytes_of : List ℕ → Option (List ℕ)) → (Unread : Type 0) → BestArguments → (status : ℕ) → (given left old new : Option (List ℕ)) → Type 0
BestRan below_of bytes_of Unread arguments status given left old new = RanOverInputs below_of bytes_of Unread arguments status given left old new ⊎ FindsNoInputs Unread status old new

-- What it said at status 0 of the inputs for which its arguments stand, given what is known of the files below each folder, of
-- the bytes of the file with each name, and of standard input, and what holds if it said nothing: what standard error had
-- before, and has.
abbrev pub BestSaid : (below_of : List ℕ → Option (Option (List (List ℕ)))) → (bytes_of : List ℕ → Option (List ℕ)) → (given : Option (List ℕ)) → (Silent : Type 0) → BestArguments → (old new : Option (List ℕ)) → Type 0
BestSaid below_of bytes_of given Silent arguments old new =
    (sources : List Source) × (count : ℕ) × AreInputs below_of arguments.files.items sources count
    × SaysOfFiles (files_note arguments.ruleset sources count) Silent (knowns_of bytes_of given sources) old new

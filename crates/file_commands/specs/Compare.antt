-- The command `compare`, which compares two solution files, mine and theirs, or writes what is better in mine.
use Rattle.std.specs.Prelude.{◌≡◌, ◌≢◌, ◌⊎◌, ℕ, zero, suc, ◌≤◌, Bool, true, false, List, Option, Some, IfSome, Result, Ok, Err, option_map, string_bytes, codes}
use Rattle.std.specs.Io.KnownBytes.{Appends}
use Rattle.clap.specs.Words.{App, Row, Rule, Text, first_of, new_app, new_rule, with_rule}
use Rattle.clap.specs.declared.builder.action.ArgAction.TheVariants.{SetTrue}
use Rattle.byte_output.specs.Output.{AppendsPrefix}
use Rattle.tws_file.specs.declared.file_fault.FileFault.{FileFault}
use Rattle.tws_file.specs.Text.{File, IsText, IsReadable}
use Rattle.tws_file.specs.Fault.{HasFileFault}
use Rattle.tws_best.specs.Best.{collection_text}
use Rattle.tws_compare.specs.Compare.{rows_of, better_of}
use Rattle.tws_compare.specs.Lines.{comparison_text}
use Rattle.show_commands.specs.Output.{output_rule}
use Rattle.file_commands.specs.declared.compare.CompareArguments.{CompareArguments}
use Rattle.command_line.specs.declared.tool_fault.ToolFault.{ToolFault}
use Rattle.command_line.specs.declared.tool_fault.ToolFault.TheVariants.{Read, Write, Unreadable, Memory, Socket, Transfer}
use Rattle.command_line.specs.Arguments.{HasFlag}
use Rattle.command_line.specs.Saying.{Says}
use Rattle.file_commands.specs.Notes.{sets_note}
use Rattle.command_line.specs.Faults.{status_of}
use Rattle.command_line.specs.Printing.{ReportsFile}
use Rattle.system_files.specs.Files.{CanOpen, CannotOpen}
use Rattle.command_line.specs.Inputs.{IsUnreadable}

abbrev pub compare_name : Text
compare_name = codes "compare"

-- `MINE`
abbrev pub mine_rule : Rule
mine_rule = record (new_rule (codes "mine")) { value_names = 1; required = true }

-- `THEIRS`
abbrev pub theirs_rule : Rule
theirs_rule = record (new_rule (codes "theirs")) { value_names = 1; required = true }

abbrev pub better_rule : Rule
better_rule = record (new_rule (codes "better")) { long = Some (codes "better"); action = Some SetTrue }

-- without `--output`
abbrev pub compared_app : App
compared_app = with_rule (with_rule (with_rule (new_app compare_name) mine_rule) theirs_rule) better_rule

-- `compare [--better] [-o FILE] MINE THEIRS`
abbrev pub compare_app : App
compare_app = with_rule compared_app output_rule

-- what was found for its arguments
pub record AsksToCompare (rows : List Row) (arguments : CompareArguments) : Type 0 where
  pub mine_is : first_of mine_rule.id rows ≡ Some (string_bytes arguments.mine)
  pub theirs_is : first_of theirs_rule.id rows ≡ Some (string_bytes arguments.theirs)
  pub better_is : HasFlag better_rule rows arguments.better
  pub output_is : option_map string_bytes arguments.output ≡ first_of output_rule.id rows

-- ---- what it writes

-- the comparison of two files, or the collection of what is better in mine
abbrev pub compared_text : (better : Bool) → (mine theirs : File) → List ℕ
compared_text false mine theirs = comparison_text (rows_of mine theirs)
compared_text true mine theirs = collection_text (better_of mine theirs)

-- What comes of two files, by whether they are of one ruleset: their text was written, or nothing.
abbrev pub ComparesFiles : (better : Bool) → (mine theirs : File) → (old new : Option (List ℕ)) → (same : Bool) → Type 0
ComparesFiles better mine theirs old new true = (mine.ruleset ≡ theirs.ruleset) × Appends old new (compared_text better mine theirs)
ComparesFiles better mine theirs old new false = (mine.ruleset ≢ theirs.ruleset) × (new ≡ old)

-- their text was not written whole
abbrev pub FilesFail : (better : Bool) → (mine theirs : File) → (old new : Option (List ℕ)) → ToolFault → Type 0
FilesFail better mine theirs old new Read = ⊥
FilesFail better mine theirs old new Write = AppendsPrefix old new (compared_text better mine theirs)
FilesFail better mine theirs old new (Unreadable index fault) = ⊥
FilesFail better mine theirs old new Memory = new ≡ old
FilesFail better mine theirs old new Socket = ⊥
FilesFail better mine theirs old new (Transfer why) = ⊥

-- the inputs are the texts of two files
pub record AreTexts (mine theirs : Option (List ℕ)) (m t : File) : Type 0 where
  pub mine_is : IfSome mine (λ (bytes : List ℕ). IsText bytes m)
  pub theirs_is : IfSome theirs (λ (bytes : List ℕ). IsText bytes t)

-- what comes of two inputs
abbrev pub Compares : (better : Bool) → (mine theirs old new : Option (List ℕ)) → (same : Bool) → Type 0
Compares better mine theirs old new same = (m : File) × (t : File) × AreTexts mine theirs m t × ComparesFiles better m t old new same

-- a proper prefix of their text was written
abbrev pub ComparesPrefix : (better : Bool) → (mine theirs old new : Option (List ℕ)) → Type 0
ComparesPrefix better mine theirs old new = (m : File) × (t : File) × AreTexts mine theirs m t × AppendsPrefix old new (compared_text better m t)

-- the input with this number is the first that is not the text of a file, and has this fault
abbrev pub IsFirstAtFault : (mine theirs : Option (List ℕ)) → ℕ → FileFault → Type 0
IsFirstAtFault mine theirs zero fault = IfSome mine (λ (bytes : List ℕ). HasFileFault bytes fault)
IsFirstAtFault mine theirs (suc zero) fault = IfSome mine IsReadable × IfSome theirs (λ (bytes : List ℕ). HasFileFault bytes fault)
IsFirstAtFault mine theirs (suc (suc n)) fault = ⊥

abbrev pub CompareFails : (better : Bool) → (mine theirs old new : Option (List ℕ)) → ToolFault → Type 0
CompareFails better mine theirs old new Read = new ≡ old
CompareFails better mine theirs old new Write = ComparesPrefix better mine theirs old new
CompareFails better mine theirs old new (Unreadable index fault) = (new ≡ old) × IsFirstAtFault mine theirs index fault
CompareFails better mine theirs old new Memory = new ≡ old
CompareFails better mine theirs old new Socket = ⊥
CompareFails better mine theirs old new (Transfer why) = ⊥

-- ---- by the exit status

-- the exit status of a comparison with this result
abbrev pub compare_status : Result Bool ToolFault → ℕ
compare_status (Ok true) = 0
compare_status (Ok false) = 1
compare_status (Err e) = status_of e

-- what it did with two inputs
pub record ComparesInputs (better : Bool) (mine theirs : Option (List ℕ)) (status : ℕ) (old new : Option (List ℕ)) : Type 0 where
  pub done : status ≡ 0 → Compares better mine theirs old new true
  pub other : status ≡ 1 → Compares better mine theirs old new false
  pub failed : status ≡ 2 → (new ≡ old) ⊎ ComparesPrefix better mine theirs old new
  pub unreadable : status ≡ 3 → (new ≡ old) × (IsUnreadable mine ⊎ IsUnreadable theirs)
  pub few : status ≤ 3

-- What it did, by the exit status, given what is known of the bytes of the file with each name.
abbrev pub CompareRan : (bytes_of : List ℕ → Option (List ℕ)) → CompareArguments → (status : ℕ) → (old new : Option (List ℕ)) → Type 0
CompareRan bytes_of arguments status old new = ComparesInputs arguments.better (bytes_of (string_bytes arguments.mine)) (bytes_of (string_bytes arguments.theirs)) status old new

-- both files can be opened, as far as that is known
abbrev pub CanOpenBoth : (opens_of : List ℕ → Option Bool) → CompareArguments → Type 0
CanOpenBoth opens_of arguments = CanOpen (opens_of (string_bytes arguments.mine)) × CanOpen (opens_of (string_bytes arguments.theirs))

-- the first of the two files that cannot be opened was reported by its name
abbrev pub ReportsUnopened : (opens_of : List ℕ → Option Bool) → CompareArguments → (old new : Option (List ℕ)) → Type 0
ReportsUnopened opens_of arguments old new =
    (CannotOpen (opens_of (string_bytes arguments.mine)) × ReportsFile Read (string_bytes arguments.mine) old new)
    ⊎ (CanOpen (opens_of (string_bytes arguments.mine)) × CannotOpen (opens_of (string_bytes arguments.theirs)) × ReportsFile Read (string_bytes arguments.theirs) old new)

-- ---- what it said

-- what is said of two files
abbrev pub compare_note : CompareArguments → (mine theirs : File) → List ℕ
compare_note arguments mine theirs = sets_note (string_bytes arguments.mine) mine (string_bytes arguments.theirs) theirs

-- that was said of the files in two inputs
abbrev pub SaysOfTwo : CompareArguments → (Silent : Type 0) → (mine theirs old new : Option (List ℕ)) → Type 0
SaysOfTwo arguments Silent mine theirs old new = (m : File) × (t : File) × AreTexts mine theirs m t × Says (compare_note arguments m t) Silent old new

-- What it said at status 0, given what is known of the bytes of the file with each name, and what holds if it said nothing:
-- what standard error had before, and has.
abbrev pub CompareSaid : (bytes_of : List ℕ → Option (List ℕ)) → (Silent : Type 0) → CompareArguments → (old new : Option (List ℕ)) → Type 0
CompareSaid bytes_of Silent arguments old new = SaysOfTwo arguments Silent (bytes_of (string_bytes arguments.mine)) (bytes_of (string_bytes arguments.theirs)) old new

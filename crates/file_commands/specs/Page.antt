-- The command `page`, which writes the solutions of all its inputs as a page.
use Rattle.std.specs.Prelude.{◌≡◌, ◌≢◌, ◌⊎◌, ℕ, List, [], Option, None, Some, IfSome, IsUtf8, codes, option_map, string_bytes}
use Rattle.std.specs.Io.KnownBytes.{Appends}
use Rattle.clap.specs.Words.{App, Row, Rule, Text, first_of, new_app, new_rule, with_rule}
use Rattle.tws_file.specs.Text.{File}
use Rattle.byte_output.specs.Output.{AppendsPrefix}
use Rattle.tws_pages.specs.declared.level.Level.{Level}
use Rattle.tws_pages.specs.Levels.{levels_in}
use Rattle.tws_pages.specs.LevelPage.{page_by}
use Rattle.show_commands.specs.Output.{output_rule}
use Rattle.file_commands.specs.declared.page.PageArguments.{PageArguments}
use Rattle.command_line.specs.declared.tool_fault.ToolFault.{ToolFault}
use Rattle.command_line.specs.Arguments.{HasSources, files_rule}
use Rattle.show_commands.specs.SeveralInputs.{AreFiles, FilesFail, FilesRanFrom}

abbrev pub page_name : Text
page_name = codes "page"

-- `--title TEXT`
abbrev pub title_rule : Rule
title_rule = record (new_rule (codes "title")) { long = Some (codes "title"); value_names = 1 }

-- `--levels FILE`
abbrev pub levels_rule : Rule
levels_rule = record (new_rule (codes "levels")) { long = Some (codes "levels"); value_names = 1 }

-- without `--output`
abbrev pub paged_app : App
paged_app = with_rule (with_rule (with_rule (new_app page_name) files_rule) title_rule) levels_rule

-- `page [--title TEXT] [--levels FILE] [-o FILE] FILE..`
abbrev pub page_app : App
page_app = with_rule paged_app output_rule

-- what was found for its arguments
pub record AsksForPage (rows : List Row) (arguments : PageArguments) : Type 0 where
  pub files_are : HasSources rows arguments.files.items
  pub title_is : option_map string_bytes arguments.title ≡ first_of title_rule.id rows
  pub levels_is : option_map string_bytes arguments.levels ≡ first_of levels_rule.id rows
  pub output_is : option_map string_bytes arguments.output ≡ first_of output_rule.id rows

-- ---- the list of levels

-- the levels of a file of which this is known, at least one
pub record IsLevelList (known : Option (List ℕ)) (levels : List Level) : Type 0 where
  pub are : IfSome known (λ (bytes : List ℕ). levels ≡ levels_in bytes)
  pub some : levels ≢ []

-- the bytes are no text, or no line of it has a level
abbrev pub HasNoLevel : List ℕ → Type 0
HasNoLevel bytes = (IsUtf8 bytes → ⊥) ⊎ (levels_in bytes ≡ [])

-- why a file of which this is known gave no list, by the exit status: it could not be read, or has no level
abbrev pub GivesNoList : (known : Option (List ℕ)) → (status : ℕ) → Type 0
GivesNoList known status = (status ≡ 2) ⊎ ((status ≡ 3) × IfSome known HasNoLevel)

-- the levels are those of the file with this name, if one was named
abbrev pub AreGiven : (bytes_of : List ℕ → Option (List ℕ)) → (name : Option Text) → Option (List Level) → Type 0
AreGiven bytes_of None None = Unit {0}
AreGiven bytes_of None (Some levels) = ⊥
AreGiven bytes_of (Some name) None = ⊥
AreGiven bytes_of (Some name) (Some levels) = IsLevelList (bytes_of name) levels

-- the file with this name gave no list
abbrev pub AreNotGiven : (bytes_of : List ℕ → Option (List ℕ)) → (name : Option Text) → (status : ℕ) → Type 0
AreNotGiven bytes_of None status = ⊥
AreNotGiven bytes_of (Some name) status = GivesNoList (bytes_of name) status

-- ---- the page

-- the page of the files was written, with this title and by these levels if they were given
abbrev pub PageWrites : (title : Option (List ℕ)) → (levels : Option (List Level)) → List (Option (List ℕ)) → (old new : Option (List ℕ)) → Type 0
PageWrites title levels knowns old new = (files : List File) × AreFiles knowns files × Appends old new (page_by title levels files)

-- a proper prefix of it was written
abbrev pub PagePrefix : (title : Option (List ℕ)) → (levels : Option (List Level)) → List (Option (List ℕ)) → (old new : Option (List ℕ)) → Type 0
PagePrefix title levels knowns old new = (files : List File) × AreFiles knowns files × AppendsPrefix old new (page_by title levels files)

abbrev pub PageFails : (title : Option (List ℕ)) → (levels : Option (List Level)) → List (Option (List ℕ)) → (old new : Option (List ℕ)) → ToolFault → Type 0
PageFails title levels knowns old new = FilesFail (PagePrefix title levels knowns old new) knowns old new

-- the files were read once the levels were
pub record RanByLevels (bytes_of : List ℕ → Option (List ℕ)) (Unread : Type 0) (arguments : PageArguments) (status : ℕ) (given left old new : Option (List ℕ)) : Type 0 where
  pub levels : Option (List Level)
  pub are : AreGiven bytes_of (option_map string_bytes arguments.levels) levels
  pub ran : FilesRanFrom arguments.files.items bytes_of Unread (PageWrites (option_map string_bytes arguments.title) levels) (PagePrefix (option_map string_bytes arguments.title) levels) status given left old new

-- there were no levels, and nothing else was read, nor written
pub record LacksLevels (bytes_of : List ℕ → Option (List ℕ)) (Unread : Type 0) (arguments : PageArguments) (status : ℕ) (old new : Option (List ℕ)) : Type 0 where
  pub why : AreNotGiven bytes_of (option_map string_bytes arguments.levels) status
  pub unread : Unread
  pub unwritten : new ≡ old

-- What it did, by the exit status, given what is known of the bytes of the file with each name, and what holds if
-- standard input was not read: what standard input had and has left, and the output before and after.
abbrev pub PageRan : (bytes_of : List ℕ → Option (List ℕ)) → (Unread : Type 0) → PageArguments → (status : ℕ) → (given left old new : Option (List ℕ)) → Type 0
PageRan bytes_of Unread arguments status given left old new =
    RanByLevels bytes_of Unread arguments status given left old new ⊎ LacksLevels bytes_of Unread arguments status old new

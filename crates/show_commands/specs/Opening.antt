-- Several inputs that are opened: files, and standard input.
use Rattle.std.specs.Prelude.{◌≡◌, ℕ, Bool, List, [], ◌∷◌, ◌++◌, Option, Some, None, string_bytes}
use Rattle.std.specs.List.{AllByRecursion}
use Rattle.system_files.specs.Files.{CanOpen, CannotOpen}
use Rattle.command_line.specs.Printing.{ReportsFile}
use Rattle.command_line.specs.declared.source.Source.{Source}
use Rattle.command_line.specs.declared.source.Source.TheVariants.{Standard, Named}
use Rattle.command_line.specs.declared.tool_fault.ToolFault.TheVariants.{Read}
use Rattle.show_commands.specs.declared.input_file.Stage.{Stage}
use Rattle.show_commands.specs.declared.input_file.Stage.TheVariants.{Closed, Open, Ended}
use Rattle.show_commands.specs.declared.not_opened.NotOpened.{NotOpened}
use Rattle.show_commands.specs.declared.not_opened.NotOpened.TheVariants.{Memory, Reported}

-- what a file has left to be read, if there still is one
abbrev pub left_in : {F : Type 0} → (reported : F → Option (List ℕ)) → Option F → Option (List ℕ)
left_in reported None = Some []
left_in reported (Some file) = reported file

-- what a file has left to be read at a stage, which has these bytes before it is opened
abbrev pub left_of : {F : Type 0} → (reported : F → Option (List ℕ)) → (known : Option (List ℕ)) → Stage F → Option (List ℕ)
left_of reported known Closed = known
left_of reported known (Open file) = reported file
left_of reported known Ended = Some []

-- the input of a source can be opened, as far as that is known
abbrev pub CanOpenSource : (opens_of : List ℕ → Option Bool) → Source → Type 0
CanOpenSource opens_of Standard = Unit {0}
CanOpenSource opens_of (Named name) = CanOpen (opens_of (string_bytes name))

abbrev pub CannotOpenSource : (opens_of : List ℕ → Option Bool) → Source → Type 0
CannotOpenSource opens_of Standard = ⊥
CannotOpenSource opens_of (Named name) = CannotOpen (opens_of (string_bytes name))

-- the inputs of these sources can all be opened
abbrev pub CanOpenAll : (opens_of : List ℕ → Option Bool) → List Source → Type 0
CanOpenAll opens_of sources = AllByRecursion (CanOpenSource opens_of) sources

-- this is the first of the sources that cannot be opened
pub record IsFirstUnopened (opens_of : List ℕ → Option Bool) (sources : List Source) (source : Source) : Type 0 where
  pub before : List Source
  pub after : List Source
  pub place : sources ≡ before ++ source ∷ after
  pub can : CanOpenAll opens_of before
  pub cannot : CannotOpenSource opens_of source

-- that the input of this source cannot be opened was reported by its name
abbrev pub ReportsUnopened : Source → (old new : Option (List ℕ)) → Type 0
ReportsUnopened Standard old new = ⊥
ReportsUnopened (Named name) old new = ReportsFile Read (string_bytes name) old new

-- why the inputs of these sources are not all open: the first that cannot be opened was reported; what standard error had before,
-- and has
abbrev pub AreNotOpened : (opens_of : List ℕ → Option Bool) → List Source → (old new : Option (List ℕ)) → NotOpened → Type 0
AreNotOpened opens_of sources old new Memory = new ≡ old
AreNotOpened opens_of sources old new Reported = (source : Source) × IsFirstUnopened opens_of sources source × ReportsUnopened source old new

-- What is printed of why a command failed.
use Rattle.std.specs.Prelude.{◌≡◌, ◌≢◌, ◌⊎◌, ℕ, List, [], ◌∷◌, Option, Some, None, Result, Ok, Err, slice_get, string_bytes}
use Rattle.std.specs.List.{Contains}
use Rattle.std.specs.Borrow.{Bor}
use Rattle.either.specs.declared.Either.{Either}
use Rattle.either.specs.declared.Either.TheVariants.{Left}
use Rattle.clap.specs.Words.{Text}
use Rattle.command_line.specs.Printing.{Printed, ReportsFile, report_lines}
use Rattle.command_line.specs.declared.source.Source.{Source}
use Rattle.command_line.specs.declared.source.Source.TheVariants.{Standard, Named}
use Rattle.command_line.specs.declared.tool_fault.ToolFault.{ToolFault}
use Rattle.command_line.specs.declared.tool_fault.ToolFault.TheVariants.{Read, Write, Unreadable, Memory, Socket, Transfer}
use Rattle.show_commands.specs.declared.input_file.InputFile.{InputFile}

-- the names of an input, as a report takes them: standard input has none
abbrev pub names_of : Option Source → List Text
names_of None = []
names_of (Some Standard) = []
names_of (Some (Named name)) = string_bytes name ∷ []

-- a file of this name is among the inputs, and could not be read
pub record IsUnread {S F D : Type 0} (inputs : List (Either (InputFile S F D) (Bor (List ℕ)))) (name : List ℕ) : Type 0 where
  pub file : InputFile S F D
  pub among : Contains inputs (Left file)
  pub failed : file.error ≢ None
  pub name_is : name ≡ file.name.now

-- that an input could not be read was reported: if the system said why, by the name of its file
abbrev pub ReportsUnread : {S F D : Type 0} → List (Either (InputFile S F D) (Bor (List ℕ))) → (old new : Option (List ℕ)) → Type 0
ReportsUnread inputs old new = Printed (report_lines Read []) old new ⊎ ((name : List ℕ) × IsUnread inputs name × ReportsFile Read name old new)

-- why a command over the inputs of these sources failed was reported, if it did
abbrev pub ReportsAmong : {S F D : Type 0} → List Source → List (Either (InputFile S F D) (Bor (List ℕ))) → Result (Unit {0}) ToolFault → (old new : Option (List ℕ)) → Type 0
ReportsAmong sources inputs (Ok done) old new = new ≡ old
ReportsAmong sources inputs (Err Read) old new = ReportsUnread inputs old new
ReportsAmong sources inputs (Err Write) old new = Printed (report_lines Write []) old new
ReportsAmong sources inputs (Err (Unreadable index fault)) old new = Printed (report_lines (Unreadable 0 fault) (names_of (slice_get sources index))) old new
ReportsAmong sources inputs (Err Memory) old new = Printed (report_lines Memory []) old new
ReportsAmong sources inputs (Err Socket) old new = Printed (report_lines Socket []) old new
ReportsAmong sources inputs (Err (Transfer why)) old new = Printed (report_lines (Transfer why) []) old new

-- nothing, or that the file of this name was not written
abbrev pub ReportsSave : (name : Text) → (old new : Option (List ℕ)) → Type 0
ReportsSave name old new = (new ≡ old) ⊎ ReportsFile Write name old new ⊎ Printed (report_lines Write []) old new

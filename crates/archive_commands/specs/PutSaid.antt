-- The command `put`: what it said.
use Rattle.std.specs.Prelude.{◌≡◌, ◌⊎◌, ℕ, List, Option}
use Rattle.std.specs.List.{AllZip}
use Rattle.tws_file.specs.declared.key.Key.{Key}
use Rattle.command_line.specs.declared.source.Source.{Source}
use Rattle.clap.specs.Words.{Text}
use Rattle.command_line.specs.Saying.{Says}
use Rattle.command_line.specs.Printing.{Printed}
use Rattle.archive_commands.specs.Labels.{are_several}
use Rattle.archive_commands.specs.PutFiles.{AreRead, NotesStopping}
use Rattle.archive_commands.specs.Reports.{ReportsFirst, SaysThen, no_host_reason, swapped_reason}
use Rattle.archive_arguments.specs.Address.{bad_address_lines}
use Rattle.archive_commands.specs.Stopping.{IsFirstStopping, stopping_lines}

-- What was said on standard error, given what is known of the bytes of the file with each name, and what standard input had: of
-- each file with a solution that stops Tile World, which one is the first. `Silent` is what holds if no file has one.
pub record PutSaid (bytes_of : List ℕ → Option (List ℕ)) (sources : List Source) (given : Option (List ℕ)) (Silent : Type 0) (old new : Option (List ℕ)) : Type 0 where
  pub texts : List (List ℕ)
  pub left : Option (List ℕ)
  pub read : AreRead bytes_of sources texts given left
  pub found : List (Option Key)
  pub first : AllZip IsFirstStopping texts found
  pub says : Says (stopping_lines (are_several sources) sources found) Silent old new

-- What `put` printed with this status, whatever that is, for this address: that it leads to no host; or why a file was not read; or
-- which solutions stop Tile World of the files that were read, and then what was reported of each.
abbrev pub PutReports : (bytes_of : List ℕ → Option (List ℕ)) → List Source → (given : Option (List ℕ)) → (address : Text) → (status : ℕ) → (old new : Option (List ℕ)) → Type 0
PutReports bytes_of sources given address status old new =
    ((status ≡ 1) × (Printed (bad_address_lines address no_host_reason) old new ⊎ Printed (bad_address_lines address swapped_reason) old new))
    ⊎ ReportsFirst sources status old new
    ⊎ ((texts : List (List ℕ)) × (left : Option (List ℕ)) × AreRead bytes_of sources texts given left × ((note : List ℕ) × NotesStopping (are_several sources) sources texts note × SaysThen note sources address old new))

-- The list of the commands on files: which job each asks for, and what each job did. A command is defined in the file of its
-- name, here or in `show_commands`.
use Rattle.std.specs.Prelude.{◌≡◌, ℕ, ◌&&◌, Bool, false, List, Option, option_map, string_bytes}
use Rattle.clap.specs.Words.{App, Row, Text, with_subcommand}
use Rattle.command_line.specs.Arguments.{RulesetNames}
use Rattle.show_commands.specs.ShowJobs.{shows_app}
use Rattle.show_commands.specs.Output.{WritesTo}
use Rattle.show_commands.specs.Show.{AsksToShow, ShowRan, show_name}
use Rattle.show_commands.specs.Pack.{AsksToPack, PackRan, pack_name}
use Rattle.file_commands.specs.declared.file_job.FileJob.{FileJob}
use Rattle.file_commands.specs.declared.file_job.FileJob.TheVariants as job
use Rattle.file_commands.specs.Without.{AsksForWithout, WithoutRan, WithoutSaid, without_app, without_name}
use Rattle.file_commands.specs.Best.{AsksForBest, BestRan, BestSaid, best_app, best_name}
use Rattle.file_commands.specs.Compare.{AsksToCompare, CompareRan, CompareSaid, compare_app, compare_name}
use Rattle.file_commands.specs.Page.{AsksForPage, PageRan, page_app, page_name}

-- the command line with only the commands on files
abbrev pub files_app : RulesetNames → App
files_app names =
    with_subcommand (with_subcommand (with_subcommand (with_subcommand shows_app without_app.top) (best_app names).top) compare_app.top) page_app.top

-- the command of this name, with what was found for its arguments, asks for the job
abbrev pub AsksForFileJob : Text × List Row → FileJob → Type 0
AsksForFileJob command (job.Show arguments) = (command.0 ≡ show_name) × AsksToShow command.1 arguments
AsksForFileJob command (job.Pack arguments) = (command.0 ≡ pack_name) × AsksToPack command.1 arguments
AsksForFileJob command (job.Without arguments) = (command.0 ≡ without_name) × AsksForWithout command.1 arguments
AsksForFileJob command (job.Best arguments) = (command.0 ≡ best_name) × AsksForBest command.1 arguments
AsksForFileJob command (job.Compare arguments) = (command.0 ≡ compare_name) × AsksToCompare command.1 arguments
AsksForFileJob command (job.Page arguments) = (command.0 ≡ page_name) × AsksForPage command.1 arguments

-- What a job did to the writer of its text, by its exit status: 0 if all was done, 1 for a usage error, 2 if reading, writing
-- or memory failed, 3 for an unreadable solution file. Given are what is known of the files below each folder, and of the bytes
-- of the file with each name, and what holds if standard input was not read; then what standard input had and has left, and the
-- output before and after.
abbrev pub FileJobRan : (below_of : List ℕ → Option (Option (List (List ℕ)))) → (bytes_of : List ℕ → Option (List ℕ)) → (Unread : Type 0) → FileJob → (status : ℕ) → (had left old new : Option (List ℕ)) → Type 0
FileJobRan below_of bytes_of Unread (job.Show arguments) status had left old new = ShowRan bytes_of Unread arguments status had left old new
FileJobRan below_of bytes_of Unread (job.Pack arguments) status had left old new = PackRan bytes_of Unread arguments status had left old new
FileJobRan below_of bytes_of Unread (job.Without arguments) status had left old new = WithoutRan bytes_of Unread arguments status had left old new
FileJobRan below_of bytes_of Unread (job.Best arguments) status had left old new = BestRan below_of bytes_of Unread arguments status had left old new
FileJobRan below_of bytes_of Unread (job.Compare arguments) status had left old new = Unread × CompareRan bytes_of arguments status old new
FileJobRan below_of bytes_of Unread (job.Page arguments) status had left old new = PageRan bytes_of Unread arguments status had left old new

-- the file that a job is to write, if one was named
abbrev pub output_of : FileJob → Option Text
output_of (job.Show arguments) = option_map string_bytes arguments.output
output_of (job.Pack arguments) = option_map string_bytes arguments.output
output_of (job.Without arguments) = option_map string_bytes arguments.output
output_of (job.Best arguments) = option_map string_bytes arguments.output
output_of (job.Compare arguments) = option_map string_bytes arguments.output
output_of (job.Page arguments) = option_map string_bytes arguments.output

-- whether a job would write a solution file to a terminal, if it wrote to one
abbrev pub spills : (to_terminal : Bool) → FileJob → Bool
spills to_terminal (job.Show arguments) = false
spills to_terminal (job.Pack arguments) = to_terminal
spills to_terminal (job.Without arguments) = to_terminal
spills to_terminal (job.Best arguments) = to_terminal
spills to_terminal (job.Compare arguments) = arguments.better && to_terminal
spills to_terminal (job.Page arguments) = false

-- What a job did, given also whether standard output is a terminal, what is known of a draft for each file, and of the files
-- afterwards, and what holds if nothing was written to standard output.
abbrev pub FileJobRuns : (to_terminal : Bool) → (below_of : List ℕ → Option (Option (List (List ℕ)))) → (bytes_of drafted_of now : List ℕ → Option (List ℕ)) → (Unread Unwritten : Type 0) → FileJob → (status : ℕ) → (had left old new : Option (List ℕ)) → Type 0
FileJobRuns to_terminal below_of bytes_of drafted_of now Unread Unwritten job status had left old new =
    WritesTo (output_of job) (spills to_terminal job) (λ s o n. FileJobRan below_of bytes_of Unread job s had left o n) Unread Unwritten status drafted_of bytes_of now old new

-- What a job said on standard error at status 0, given what is known of the files below each folder, of the bytes of the file
-- with each name, and of standard input, and what holds if it said nothing: what standard error had before, and has.
abbrev pub FileJobSaid : (below_of : List ℕ → Option (Option (List (List ℕ)))) → (bytes_of : List ℕ → Option (List ℕ)) → (given : Option (List ℕ)) → (Silent : Type 0) → FileJob → (old new : Option (List ℕ)) → Type 0
FileJobSaid below_of bytes_of given Silent (job.Show arguments) old new = Silent
FileJobSaid below_of bytes_of given Silent (job.Pack arguments) old new = Silent
FileJobSaid below_of bytes_of given Silent (job.Without arguments) old new = WithoutSaid bytes_of given Silent arguments old new
FileJobSaid below_of bytes_of given Silent (job.Best arguments) old new = BestSaid below_of bytes_of given Silent arguments old new
FileJobSaid below_of bytes_of given Silent (job.Compare arguments) old new = CompareSaid bytes_of Silent arguments old new
FileJobSaid below_of bytes_of given Silent (job.Page arguments) old new = Silent

-- The list of the commands here: their command line, which job each asks for, and what each job did. A command is
-- defined in the file of its name.
use Rattle.std.specs.Prelude.{◌≡◌, ℕ, Bool, false, List, Option, Result, Ok, Err, option_map, string_bytes}
use Rattle.clap.specs.Words.{App, Row, Text, with_subcommand}
use Rattle.clap.specs.declared.parser.matches.ArgMatches.{ArgMatches}
use Rattle.command_line.specs.CommandLine.{AnswersIn, FindsCommand, top_app}
use Rattle.command_line.specs.Help.{NoJobRan}
use Rattle.command_line.specs.declared.job_fault.JobFault.{JobFault}
use Rattle.show_commands.specs.declared.show_job.ShowJob.{ShowJob}
use Rattle.show_commands.specs.declared.show_job.ShowJob.TheVariants as job
use Rattle.show_commands.specs.Output.{WritesTo}
use Rattle.show_commands.specs.Show.{AsksToShow, ShowRan, show_app, show_name}
use Rattle.show_commands.specs.Pack.{AsksToPack, PackRan, pack_app, pack_name}

-- the program with only these commands
abbrev pub shows_app : App
shows_app = with_subcommand (with_subcommand top_app show_app.top) pack_app.top

-- the command of this name, with what was found for its arguments, asks for the job
abbrev pub AsksToShowFile : Text × List Row → ShowJob → Type 0
AsksToShowFile command (job.Show arguments) = (command.0 ≡ show_name) × AsksToShow command.1 arguments
AsksToShowFile command (job.Pack arguments) = (command.0 ≡ pack_name) × AsksToPack command.1 arguments

-- What a job did to the writer of its text, by its exit status: 0 if all was done, 2 if reading, writing or memory failed, 3
-- for an unreadable solution file. Given are what is known of the bytes of the file with each name, and what holds if standard input
-- was not read; then what standard input had and has left, and the output before and after.
abbrev pub ShowJobRan : (bytes_of : List ℕ → Option (List ℕ)) → (Unread : Type 0) → ShowJob → (status : ℕ) → (had left old new : Option (List ℕ)) → Type 0
ShowJobRan bytes_of Unread (job.Show arguments) status had left old new = ShowRan bytes_of Unread arguments status had left old new
ShowJobRan bytes_of Unread (job.Pack arguments) status had left old new = PackRan bytes_of Unread arguments status had left old new

-- the file that a job is to write, if one was named
abbrev pub output_of : ShowJob → Option Text
output_of (job.Show arguments) = option_map string_bytes arguments.output
output_of (job.Pack arguments) = option_map string_bytes arguments.output

-- whether a job would write a solution file to a terminal, if it wrote to one
abbrev pub spills : (to_terminal : Bool) → ShowJob → Bool
spills to_terminal (job.Show arguments) = false
spills to_terminal (job.Pack arguments) = to_terminal

-- What a job did, given also whether standard output is a terminal, what is known of a draft for each file, and of the files
-- afterwards, and what holds if nothing was written to standard output.
abbrev pub ShowJobRuns : (to_terminal : Bool) → (bytes_of drafted_of now : List ℕ → Option (List ℕ)) → (Unread Unwritten : Type 0) → ShowJob → (status : ℕ) → (had left old new : Option (List ℕ)) → Type 0
ShowJobRuns to_terminal bytes_of drafted_of now Unread Unwritten job status had left old new =
    WritesTo (output_of job) (spills to_terminal job) (λ s o n. ShowJobRan bytes_of Unread job s had left o n) Unread Unwritten status drafted_of bytes_of now old new

-- ---- the program with only these commands

-- what was found in the arguments, which have no fault
abbrev pub FindsShowCommand : List Text → ArgMatches → Type 0
FindsShowCommand words found = FindsCommand shows_app words found

-- what the arguments ask for, or why they ask for no job
abbrev pub AnswersShowWords : List Text → Result ShowJob JobFault → Type 0
AnswersShowWords words answer = AnswersIn AsksToShowFile shows_app words answer

-- what a run did that was asked for this job, or for none
abbrev pub ShowWordsRan : (to_terminal : Bool) → (bytes_of drafted_of now : List ℕ → Option (List ℕ)) → (Unread Unwritten : Type 0) → Result ShowJob JobFault → (status : ℕ) → (had left old new : Option (List ℕ)) → Type 0
ShowWordsRan to_terminal bytes_of drafted_of now Unread Unwritten (Ok job) status had left old new = ShowJobRuns to_terminal bytes_of drafted_of now Unread Unwritten job status had left old new
ShowWordsRan to_terminal bytes_of drafted_of now Unread Unwritten (Err why) status had left old new = (now ≡ bytes_of) × Unread × NoJobRan why status old new

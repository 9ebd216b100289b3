-- The list of all commands: the command line, which job each command asks for, and what each job did. The commands on files
-- are those of `file_commands`, and a command of the archive is defined in `archive_commands` or `archive_serving`.
use Rattle.std.specs.Prelude.{◌≡◌, ℕ, Bool, List, Option, Result, Ok, Err}
use Rattle.clap.specs.Words.{App, Row, Text, with_subcommand}
use Rattle.archive_wire.specs.Wire.{Entry}
use Rattle.tws_tool.specs.declared.job.Job.{Job}
use Rattle.tws_tool.specs.declared.job.Job.TheVariants as job
use Rattle.command_line.specs.declared.job_fault.JobFault.{JobFault}
use Rattle.command_line.specs.Arguments.{RulesetNames}
use Rattle.command_line.specs.Help.{NoJobRan}
use Rattle.file_commands.specs.FileJobs.{AsksForFileJob, FileJobRuns, FileJobSaid, files_app}
use Rattle.archive_serving.specs.Serve.{AsksToServe, ServeRan, serve_app, serve_name}
use Rattle.archive_commands.specs.Put.{AsksToPut, put_app, put_name}
use Rattle.archive_commands.specs.PutRan.{PutRan}
use Rattle.archive_commands.specs.PutSaid.{PutSaid}
use Rattle.archive_commands.specs.Get.{AsksToGet, GetRan, get_app, get_name}
use Rattle.archive_commands.specs.Sync.{AsksToSync, SyncRan, sync_app, sync_name}
use Rattle.archive_commands.specs.Known.{Known}

abbrev pub tws_app : RulesetNames → App
tws_app names = with_subcommand (with_subcommand (with_subcommand (with_subcommand (files_app names) serve_app.top) put_app.top) (get_app names).top) sync_app.top

-- the command of this name, with what was found for its arguments, asks for the job
abbrev pub AsksFor : Text × List Row → Job → Type 0
AsksFor command (job.Files files) = AsksForFileJob command files
AsksFor command (job.Serve arguments) = (command.0 ≡ serve_name) × AsksToServe command.1 arguments
AsksFor command (job.Put arguments) = (command.0 ≡ put_name) × AsksToPut command.1 arguments
AsksFor command (job.Get arguments) = (command.0 ≡ get_name) × AsksToGet command.1 arguments
AsksFor command (job.Sync arguments) = (command.0 ≡ sync_name) × AsksToSync command.1 arguments

-- What a job did, by its exit status: 0 if all was done, 1 for a usage error, 2 if reading, writing, a socket or memory
-- failed, 3 for an unreadable solution file, 4 for a failed transfer. Given are whether standard output is a terminal, what is
-- known of files and hosts, what is known of the bytes of the files afterwards, what holds if standard input was not read, and
-- if nothing was written to standard output, and the ghost calls of a new wire; then what standard input had and has left, and
-- the output before and after. Only `get` and a job with `--output` change a file, and only `put`, `get` and
-- `sync` use a wire.
abbrev pub JobRuns : (to_terminal : Bool) → (known : Known) (now : List ℕ → Option (List ℕ)) → (Unread Unwritten : Type 0) → (first : Option (List Entry)) → Result Job JobFault → (status : ℕ) → (had left old new : Option (List ℕ)) → Type 0
JobRuns to_terminal known now Unread Unwritten first (Ok (job.Files files)) status had left old new = FileJobRuns to_terminal known.below_of known.bytes_of known.drafted_of now Unread Unwritten files status had left old new
JobRuns to_terminal known now Unread Unwritten first (Ok (job.Serve arguments)) status had left old new = (now ≡ known.bytes_of) × Unread × ServeRan arguments status old new
JobRuns to_terminal known now Unread Unwritten first (Ok (job.Put arguments)) status had left old new = (now ≡ known.bytes_of) × ((after : Option (List Entry)) × PutRan known.bytes_of known.host_of Unread arguments status first after had left old new)
JobRuns to_terminal known now Unread Unwritten first (Ok (job.Get arguments)) status had left old new = Unread × ((after : Option (List Entry)) × GetRan known arguments status first after now old new)
JobRuns to_terminal known now Unread Unwritten first (Ok (job.Sync arguments)) status had left old new = (now ≡ known.bytes_of) × Unread × ((after : Option (List Entry)) × SyncRan known.host_of arguments status first after old new)
JobRuns to_terminal known now Unread Unwritten first (Err why) status had left old new = (now ≡ known.bytes_of) × Unread × NoJobRan why status old new

-- What a job said on standard error at status 0, given what is known of files and of standard input, and what holds if it said
-- nothing: what standard error had before, and has. The lines of a log, or about a terminal, go elsewhere.
abbrev pub JobSaid : (known : Known) → (given : Option (List ℕ)) → (Silent : Type 0) → Result Job JobFault → (old new : Option (List ℕ)) → Type 0
JobSaid known given Silent (Ok (job.Files files)) old new = FileJobSaid known.below_of known.bytes_of given Silent files old new
JobSaid known given Silent (Ok (job.Serve arguments)) old new = Silent
JobSaid known given Silent (Ok (job.Put arguments)) old new = PutSaid known.bytes_of arguments.sources.items given Silent old new
JobSaid known given Silent (Ok (job.Get arguments)) old new = Silent
JobSaid known given Silent (Ok (job.Sync arguments)) old new = Silent
JobSaid known given Silent (Err why) old new = Silent

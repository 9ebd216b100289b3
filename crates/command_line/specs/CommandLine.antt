-- What the arguments of a program of several commands ask for.
use Rattle.std.specs.Prelude.{◌≡◌, ◌⊎◌, true, false, List, [], Some, Result, Ok, Err, IfOk, codes}
use Rattle.clap.specs.Kinds.{IsAmong}
use Rattle.clap.specs.Words.{App, Row, Text, app_of, fault_of, kind_of, new_app, subcommand_of, subcommand_rows_of, with_subcommand}
use Rattle.clap.specs.declared.builder.command.Command.{Command}
use Rattle.clap.specs.declared.builder.command.Command.TheViews.{out-Command}
use Rattle.clap.specs.declared.parser.matches.ArgMatches.{ArgMatches}
use Rattle.clap.specs.declared.error.kind.ErrorKind.TheVariants.{InvalidSubcommand}
use Rattle.command_line.specs.declared.job_fault.JobFault.{JobFault}
use Rattle.command_line.specs.declared.job_fault.JobFault.TheVariants as fault

-- the program without its commands
abbrev pub top_app : App
top_app = let plain : App = new_app (codes "tws") in record plain { top = record plain.top { has_version = true; arg_required_else_help = true; subcommand_required = true } }

-- the command line of a program, with a command that was built beside it and has no argument that holds for others
abbrev pub AddsCommand : {E : Type 0} → (program command : Result Command E) → App → Type 0
AddsCommand program command built =
    (old app : App) → IfOk program (λ p. app_of p ≡ old) → IfOk command (λ c. app_of c ≡ app) → IfOk command (λ c. (out-Command c).has_globals ≡ false) → built ≡ with_subcommand old app.top

-- what was found in the arguments, which have no fault
abbrev pub FindsCommand : App → List Text → ArgMatches → Type 0
FindsCommand app words found = (fault_of app words ≡ []) × (subcommand_rows_of found ≡ subcommand_of app words)

-- the arguments have this fault, which is a request for help or a usage error
abbrev pub HasFault : App → List Text → JobFault → Type 0
HasFault app words (fault.Words error) = IsAmong (kind_of error) (fault_of app words)
HasFault app words fault.Memory = Unit {0}

-- the fault is that there is no such command
abbrev pub IsUnknown : JobFault → Type 0
IsUnknown (fault.Words error) = kind_of error ≡ InvalidSubcommand
IsUnknown fault.Memory = Unit {0}

-- ---- by the jobs of a program, and by which of them the command of a name asks for, with what was found for its arguments

-- the arguments ask for the job, and have no fault
abbrev pub AsksIn : {Job : Type 0} → (Asks : Text × List Row → Job → Type 0) → App → List Text → Job → Type 0
AsksIn Asks app words job = (fault_of app words ≡ []) × ((command : Text × List Row) × (subcommand_of app words ≡ Some command) × Asks command job)

-- the arguments have a fault; or they have none, and ask for no job
abbrev pub RefusedIn : {Job : Type 0} → (Asks : Text × List Row → Job → Type 0) → App → List Text → JobFault → Type 0
RefusedIn {Job} Asks app words why = HasFault app words why ⊎ (IsUnknown why × (fault_of app words ≡ []) × ((job : Job) → AsksIn Asks app words job → ⊥))

-- what the arguments ask for, or why they ask for no job
abbrev pub AnswersIn : {Job : Type 0} → (Asks : Text × List Row → Job → Type 0) → App → List Text → Result Job JobFault → Type 0
AnswersIn Asks app words (Ok job) = AsksIn Asks app words job
AnswersIn Asks app words (Err why) = RefusedIn Asks app words why

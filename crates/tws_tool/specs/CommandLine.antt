-- Which job the program's arguments ask for.
use Rattle.std.specs.Prelude.{◌≡◌, Bool, List, [], ◌∷◌, None, Result}
use Rattle.clap.specs.Words.{Text, fault_of}
use Rattle.clap.specs.declared.error.kind.ErrorKind.{ErrorKind}
use Rattle.clap.specs.declared.parser.matches.ArgMatches.{ArgMatches}
use Rattle.tws_tool.specs.declared.job.Job.{Job}
use Rattle.show_commands.specs.declared.show.ShowArguments.{ShowArguments}
use Rattle.command_line.specs.declared.source.Source.TheVariants.{Standard}
use Rattle.command_line.specs.declared.job_fault.JobFault.{JobFault}
use Rattle.command_line.specs.Arguments.{AreRulesetNames, RulesetNames}
use Rattle.command_line.specs.CommandLine.{AnswersIn, AsksIn, FindsCommand}
use Rattle.tws_tool.specs.Jobs.{AsksFor, tws_app}

-- what was found in the arguments, which have no fault
abbrev pub FindsWords : List Text → ArgMatches → Type 0
FindsWords words found = (names : RulesetNames) × AreRulesetNames names × FindsCommand (tws_app names) words found

-- what the arguments ask for, or why they ask for no job
abbrev pub AnswersWords : List Text → Result Job JobFault → Type 0
AnswersWords words answer = (names : RulesetNames) × AreRulesetNames names × AnswersIn AsksFor (tws_app names) words answer

-- ---- examples

-- these arguments, after the program's name, ask for the job, whatever the name is
abbrev pub AskFor : (arguments : List Text) → Job → Type 0
AskFor arguments job = (names : RulesetNames) (program : Text) → AsksIn AsksFor (tws_app names) (program ∷ arguments) job

-- these arguments ask for no job, for this reason alone
abbrev pub AskWhy : (arguments : List Text) → ErrorKind → Type 0
AskWhy arguments why = (names : RulesetNames) (program : Text) → fault_of (tws_app names) (program ∷ arguments) ≡ why ∷ []

-- standard input is listed in this way
pub record ListsInput (moves csv : Bool) (arguments : ShowArguments) : Type 0 where
  pub files_are : arguments.files.items ≡ Standard ∷ []
  pub moves_is : arguments.moves ≡ moves
  pub csv_is : arguments.csv ≡ csv
  pub output_is : arguments.output ≡ None

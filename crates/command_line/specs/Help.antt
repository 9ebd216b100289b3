-- What is written when help is asked for: a text that `clap` makes, of at least one byte. What a run did whose arguments
-- have a fault or ask for help.
use Rattle.std.specs.Prelude.{◌≡◌, ◌≢◌, ◌⊎◌, ℕ, ◌≤◌, List, [], Option}
use Rattle.std.specs.Io.KnownBytes.{Appends}
use Rattle.clap.specs.Words.{kind_of}
use Rattle.clap.specs.declared.error.Error.{Error}
use Rattle.clap.specs.declared.error.kind.ErrorKind.TheVariants.{DisplayHelp, DisplayVersion}
use Rattle.byte_output.specs.Output.{AppendsPrefix}
use Rattle.command_line.specs.declared.job_fault.JobFault.{JobFault}
use Rattle.command_line.specs.declared.job_fault.JobFault.TheVariants as fault
use Rattle.command_line.specs.declared.tool_fault.ToolFault.{ToolFault}
use Rattle.command_line.specs.declared.tool_fault.ToolFault.TheVariants.{Read, Write, Unreadable, Memory, Socket, Transfer}

pub record WritesHelp (old new : Option (List ℕ)) : Type 0 where
  pub page : List ℕ
  pub some : page ≢ []
  pub written : Appends old new page

pub record WritesHelpPrefix (old new : Option (List ℕ)) : Type 0 where
  pub page : List ℕ
  pub written : AppendsPrefix old new page

abbrev pub HelpFails : (old new : Option (List ℕ)) → ToolFault → Type 0
HelpFails old new Read = ⊥
HelpFails old new Write = WritesHelpPrefix old new
HelpFails old new (Unreadable index fault) = ⊥
HelpFails old new Memory = new ≡ old
HelpFails old new Socket = ⊥
HelpFails old new (Transfer why) = ⊥

-- the arguments ask for help
abbrev pub IsHelp : Error → Type 0
IsHelp error = (kind_of error ≡ DisplayHelp) ⊎ (kind_of error ≡ DisplayVersion)

-- help was written; or the arguments are refused, and nothing was written
pub record Explained (error : Error) (status : ℕ) (old new : Option (List ℕ)) : Type 0 where
  pub help : IsHelp error → status ≢ 1
  pub shown : status ≡ 0 → IsHelp error × WritesHelp old new
  pub failed : status ≡ 2 → IsHelp error × ((new ≡ old) ⊎ WritesHelpPrefix old new)
  pub usage : status ≡ 1 → new ≡ old
  pub few : status ≤ 2

-- what a run did whose arguments ask for no job
abbrev pub NoJobRan : JobFault → (status : ℕ) → (old new : Option (List ℕ)) → Type 0
NoJobRan (fault.Words error) status old new = Explained error status old new
NoJobRan fault.Memory status old new = (status ≡ 2) × (new ≡ old)

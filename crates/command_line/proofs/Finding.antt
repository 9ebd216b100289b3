-- What the arguments of a program find in its command line.
use Rattle.std.proofs.Common.{true, false, Bool, ◌&&◌, refl, subst, sym, Result, Ok, Err, ⊎_elim, ◌⊎◌, ◌≡◌, ◌≢◌, List, []}
use Rattle.clap.specs.Words.{App, FailsBy, HasKind, HasMatchesOf, Text, built, fault_of, is_simple, is_simple_and_free, kind_of, subcommand_of, subcommand_rows_of}
use Rattle.clap.specs.Faults.{is_free_app}
use Rattle.clap.specs.declared.parser.matches.ArgMatches.{ArgMatches}
use Rattle.clap.specs.declared.error.Error.{Error}
use Rattle.clap.specs.declared.error.kind.ErrorKind.TheVariants.{OutOfMemory}
use Rattle.command_line.specs.declared.job_fault.JobFault.{JobFault}
use Rattle.command_line.specs.declared.job_fault.JobFault.TheVariants.{Words, Memory}
use Rattle.command_line.specs.CommandLine.{HasFault}

-- the first of two that both hold
first_holds : (x y : Bool) → (x && y) ≡ true → x ≡ true
first_holds true y both = refl
first_holds false y both = both

module _ (app : App) (words : List Text) where
  -- if it returned matches, the words have no fault
  pub no_fault : (r : Result ArgMatches Error) (found : ArgMatches) → r ≡ Ok found → FailsBy (fault_of app words) r → fault_of app words ≡ []
  no_fault r found is fails = subst (FailsBy {T = ArgMatches} (fault_of app words)) is fails

  -- if it returned an error, that is one of the words' fault
  pub its_fault : (r : Result ArgMatches Error) (error : Error) → r ≡ Err error → FailsBy (fault_of app words) r → HasKind (fault_of app words) error
  its_fault r error is fails = subst (FailsBy {T = ArgMatches} (fault_of app words)) is fails

  -- the command that it found is the one that the words name
  pub its_command : (found : ArgMatches) → is_simple_and_free app ≡ true → HasMatchesOf app words found → subcommand_rows_of found ≡ subcommand_of app words
  its_command found free has = (has (first_holds (is_simple app) (is_free_app (built app)) free)).1

  -- an error of the arguments, as it is returned
  pub refused : (error : Error) (e : JobFault) → HasKind (fault_of app words) error → ((kind_of error ≡ OutOfMemory) × (e ≡ Memory)) ⊎ ((kind_of error ≢ OutOfMemory) × (e ≡ Words error)) → HasFault app words e
  refused error e has gives =
      ⊎_elim (λ (memory : (kind_of error ≡ OutOfMemory) × (e ≡ Memory)). subst (HasFault app words) (sym memory.1) tt)
      (λ (other : (kind_of error ≢ OutOfMemory) × (e ≡ Words error)).
      subst (HasFault app words) (sym other.1) (⊎_elim (λ memory. absurd (other.0 memory)) (λ among. among) has))
      gives

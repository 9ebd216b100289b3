-- What of each of two texts is better than what the other one has, and why two texts are not compared.
use Rattle.std.specs.Prelude.{◌≡◌, ◌≢◌, ℕ, List, Option, None, Some}
use Rattle.tws_file.specs.Text.{File, IsText}
use Rattle.tws_file.specs.Fault.{FailsWith}
use Rattle.tws_compare.specs.declared.counts.Counts.{Counts}
use Rattle.tws_compare.specs.Compare.{rows_of}
use Rattle.tws_compare.specs.Counts.{counts_of}
use Rattle.tws_compare.specs.Part.{IsBetterPart, HasNothingBetter}
use Rattle.archive_sync.specs.declared.news_fault.NewsFault.{NewsFault}
use Rattle.archive_sync.specs.declared.news_fault.NewsFault.TheVariants.{First, Second, Rulesets, Memory}

-- what of mine is better than theirs, or that nothing is
abbrev pub IsPart : (mine theirs : List ℕ) → Option (List ℕ) → Type 0
IsPart mine theirs None = HasNothingBetter mine theirs
IsPart mine theirs (Some text) = IsBetterPart mine theirs text

-- how the files of two texts compare, level by level
pub record IsCounted (first second : List ℕ) (counts : Counts) : Type 0 where
  pub mine : File
  pub theirs : File
  pub my_text : IsText first mine
  pub their_text : IsText second theirs
  pub same : mine.ruleset ≡ theirs.ruleset
  pub counts_are : counts ≡ counts_of (rows_of mine theirs)

-- what two archives have to tell each other of a ruleset: the first is mine
pub record Told : Type 0 where
  pub forth : Option (List ℕ)
  pub back : Option (List ℕ)
  pub counts : Counts

pub record IsTold (first second : List ℕ) (told : Told) : Type 0 where
  pub forth_is : IsPart first second told.forth
  pub back_is : IsPart second first told.back
  pub counted : IsCounted first second told.counts

-- the texts are of files of two rulesets
pub record AreApart (first second : List ℕ) : Type 0 where
  pub mine : File
  pub theirs : File
  pub my_text : IsText first mine
  pub their_text : IsText second theirs
  pub apart : mine.ruleset ≢ theirs.ruleset

abbrev pub NewsFails : (first second : List ℕ) → NewsFault → Type 0
NewsFails first second (First fault) = FailsWith first fault
NewsFails first second (Second fault) = FailsWith second fault
NewsFails first second Rulesets = AreApart first second
NewsFails first second Memory = Unit {0}

-- the fault of the same two texts in the other order
abbrev pub turned : NewsFault → NewsFault
turned (First fault) = Second fault
turned (Second fault) = First fault
turned Rulesets = Rulesets
turned Memory = Memory

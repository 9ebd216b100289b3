-- What `put --better` does with the bytes of a file: it fetches the collection of the file's ruleset, and puts what of the file
-- is better or new.
use Rattle.std.specs.Prelude.{◌≡◌, ℕ, List, ◌∷◌, [], ◌++◌, Option, None, Some, Result, Ok, Err, codes}
use Rattle.std.specs.Io.KnownBytes.{Appends}
use Rattle.tws_file.specs.declared.«ruleset».Ruleset.{Ruleset}
use Rattle.tws_file.specs.Text.{File, IsText}
use Rattle.tftp_packet.specs.declared.endpoint.Endpoint.{Endpoint}
use Rattle.archive_wire.specs.Wire.{Entry}
use Rattle.archive_runs.specs.declared.run_fault.RunFault.{RunFault}
use Rattle.tws_compare.specs.declared.counts.Counts.{Counts}
use Rattle.tws_compare.specs.Lines.{counts_line}
use Rattle.archive_sync.specs.declared.sync_fault.SyncFault.{SyncFault}
use Rattle.archive_sync.specs.News.{Told}
use Rattle.archive_sync.specs.Fetching.{FetchesNewsOf, NewsOfFails, PutsPart}
use Rattle.command_line.specs.declared.tool_fault.ToolFault.{ToolFault}
use Rattle.command_line.specs.Faults.{answer_status}
use Rattle.archive_commands.specs.declared.limits.TheConstants.{ROUNDS}
use Rattle.archive_commands.specs.Faults.{run_fault}
use Rattle.archive_commands.specs.Lines.{sent_line}
use Rattle.archive_arguments.specs.Lines.{LineFails}
use Rattle.archive_commands.specs.Syncing.{Stops, sync_status}

-- ---- what it prints

-- what was sent, or that nothing is better
abbrev pub outcome_line : Option ℕ → List ℕ
outcome_line (Some len) = sent_line len
outcome_line None = codes "nothing better" ++ 10 ∷ []

-- how the file and the collection compare, and what was sent; the file is mine
abbrev pub better_text : (label : List ℕ) → Counts → Option ℕ → List ℕ
better_text label counts sent = ((label ++ counts_line counts) ++ label) ++ outcome_line sent

-- ---- what it sends

-- the lines for what was put; or why it was not put, or not said
abbrev pub SaysBetter : (label : List ℕ) → Counts → Result (Option ℕ) RunFault → Result (Unit {0}) ToolFault → (old new : Option (List ℕ)) → Type 0
SaysBetter label counts (Ok sent) (Ok done) old new = Appends old new (better_text label counts sent)
SaysBetter label counts (Ok sent) (Err e) old new = LineFails (better_text label counts sent) old new e
SaysBetter label counts (Err fault) (Ok done) old new = ⊥
SaysBetter label counts (Err fault) (Err e) old new = (e ≡ run_fault fault) × (new ≡ old)

-- what is better was put, if anything is, and said, with this result
pub record PutsAndSays (label : List ℕ) (to : Endpoint) (told : Told) (done : Result (Unit {0}) ToolFault) (before after : Option (List Entry)) (old new : Option (List ℕ)) : Type 0 where
  pub sent : Result (Option ℕ) RunFault
  pub put : PutsPart to told.forth ROUNDS sent before after
  pub said : SaysBetter label told.counts sent done old new

-- with this status
pub record PutsPlanned (label : List ℕ) (to : Endpoint) (told : Told) (status : ℕ) (before after : Option (List Entry)) (old new : Option (List ℕ)) : Type 0 where
  pub done : Result (Unit {0}) ToolFault
  pub puts : PutsAndSays label to told done before after old new
  pub status_is : status ≡ answer_status done

-- ---- after the collection was asked for

-- it was fetched and compared with this text, or why not
abbrev pub Compared : (mine : List ℕ) (to : Endpoint) → Ruleset → Result Told SyncFault → (before after : Option (List Entry)) → Type 0
Compared mine to rules (Ok told) before after = FetchesNewsOf mine to (record { rules = rules; rounds = ROUNDS }) told before after
Compared mine to rules (Err fault) before after = NewsOfFails mine to (record { rules = rules; rounds = ROUNDS }) fault before after

-- nothing more is sent if it was not
abbrev pub PutsCompared : (label : List ℕ) (to : Endpoint) → Result Told SyncFault → (status : ℕ) → (before after : Option (List Entry)) → (old new : Option (List ℕ)) → Type 0
PutsCompared label to (Ok told) status before after old new = PutsPlanned label to told status before after old new
PutsCompared label to (Err fault) status before after old new = Stops status (sync_status fault) before after old new

-- the ruleset is that of the text
abbrev pub IsRulesOf : (bytes : List ℕ) → Ruleset → Type 0
IsRulesOf bytes rules = (file : File) → IsText bytes file → rules ≡ file.ruleset

-- what of the text is better was put
pub record PutsBetter (label mine : List ℕ) (to : Endpoint) (status : ℕ) (before after : Option (List Entry)) (old new : Option (List ℕ)) : Type 0 where
  pub rules : Ruleset
  pub rules_are : IsRulesOf mine rules
  pub news : Result Told SyncFault
  pub mid : Option (List Entry)
  pub compared : Compared mine to rules news before mid
  pub puts : PutsCompared label to news status mid after old new

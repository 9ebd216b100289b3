-- What `put --better` did, from what its parts did.
use Rattle.std.proofs.Common.{◌≡◌, ◌≤◌, ◌+◌, ℕ, List, length, take, Option, Some, None, Result, Ok, Err, OnOk, IfOk, IfErr, arith, sym, subst, take_all}
use Rattle.std.specs.Io.KnownBytes.{Appends}
use Rattle.tws_file.specs.declared.«ruleset».Ruleset.{Ruleset}
use Rattle.tws_file.specs.Text.{File, IsText}
use Rattle.tftp_packet.specs.declared.endpoint.Endpoint.{Endpoint}
use Rattle.archive_wire.specs.Wire.{Entry}
use Rattle.archive_runs.specs.declared.run_fault.RunFault.{RunFault}
use Rattle.tws_compare.specs.declared.counts.Counts.{Counts}
use Rattle.archive_sync.specs.declared.sync_fault.SyncFault.{SyncFault}
use Rattle.archive_sync.specs.News.{Told}
use Rattle.archive_sync.specs.Fetching.{FetchesNewsOf, NewsOfFails, PutsPart}
use Rattle.command_line.specs.declared.tool_fault.ToolFault.{ToolFault}
use Rattle.archive_commands.specs.declared.limits.TheConstants.{ROUNDS}
use Rattle.archive_arguments.specs.Lines.{LineFails}
use Rattle.archive_commands.specs.PutBetter.{Compared, IsRulesOf, PutsAndSays, PutsBetter, PutsCompared, SaysBetter, better_text}

-- ---- the ruleset of a file

-- the bytes are a beginning of themselves
module _ (found : Option Ruleset) (bytes : List ℕ) (told : (file : File) (all : List ℕ) (n : ℕ) → IsText all file → 5 ≤ n → bytes ≡ take n all → found ≡ Some file.ruleset) where
  of_text : (file : File) → IsText bytes file → found ≡ Some file.ruleset
  of_text file text = told file bytes (length bytes + 5) text (omega arith) (sym (take_all (length bytes + 5) bytes (omega arith)))

  -- the ruleset that was found is that of the text
  pub rules_found : (rules : Ruleset) → found ≡ Some rules → IsRulesOf bytes rules
  rules_found rules is file text = let same = of_text file text in cc

  -- where none was found, they are no text
  pub rules_of_none : (rules : Ruleset) → found ≡ None → IsRulesOf bytes rules
  rules_of_none rules is file text = absurd (let same = of_text file text in cc)

-- ---- what is sent

says_by : (label : List ℕ) (counts : Counts) (sent : Option ℕ) (done : Result (Unit {0}) ToolFault) (old new : Option (List ℕ)) → OnOk done (Appends old new (better_text label counts sent))
    → IfErr done (LineFails (better_text label counts sent) old new) → SaysBetter label counts (Ok sent) done old new
says_by label counts sent (Ok done) old new said fails = said
says_by label counts sent (Err e) old new said fails = fails

module _ (label : List ℕ) (to : Endpoint) (told : Told) (part : Option (List ℕ)) (r : Result (Option ℕ) RunFault) (before after : Option (List Entry)) where
  -- the part was put, and that was said, or not
  pub part_put : (counts : Counts) (sent : Option ℕ) (done : Result (Unit {0}) ToolFault) (old new : Option (List ℕ)) → part ≡ told.forth → r ≡ Ok sent
      → PutsPart to part ROUNDS r before after → counts ≡ told.counts → OnOk done (Appends old new (better_text label counts sent))
      → IfErr done (LineFails (better_text label counts sent) old new) → PutsAndSays label to told done before after old new
  part_put counts sent done old new part-is is put counts-are said fails =
      record {
        sent = Ok sent;
        put = subst (λ (p : Option (List ℕ)). PutsPart to p ROUNDS (Ok sent) before after) part-is
            (subst (λ (x : Result (Option ℕ) RunFault). PutsPart to part ROUNDS x before after) is put);
        said = subst (λ (c : Counts). SaysBetter label c (Ok sent) done old new) counts-are (says_by label counts sent done old new said fails);
      }

-- ---- after the collection was asked for

compared_by : (mine : List ℕ) (to : Endpoint) (rules : Ruleset) (r : Result Told SyncFault) (before after : Option (List Entry))
    → IfOk r (λ told. FetchesNewsOf mine to (record { rules = rules; rounds = ROUNDS }) told before after)
    → IfErr r (λ fault. NewsOfFails mine to (record { rules = rules; rounds = ROUNDS }) fault before after) → Compared mine to rules r before after
compared_by mine to rules (Ok told) before after fetched fails = fetched
compared_by mine to rules (Err fault) before after fetched fails = fails

-- it was fetched and compared, or not, and then the put went on
pub better_put : (label mine : List ℕ) (to : Endpoint) (rules : Ruleset) (r news : Result Told SyncFault) (status : ℕ) (before mid after : Option (List Entry)) (old new : Option (List ℕ))
    → IsRulesOf mine rules → r ≡ news → IfOk r (λ told. FetchesNewsOf mine to (record { rules = rules; rounds = ROUNDS }) told before mid)
    → IfErr r (λ fault. NewsOfFails mine to (record { rules = rules; rounds = ROUNDS }) fault before mid)
    → PutsCompared label to news status mid after old new → PutsBetter label mine to status before after old new
better_put label mine to rules r news status before mid after old new are is fetched fails puts =
    record {
      rules = rules;
      rules_are = are;
      news = news;
      mid = mid;
      compared = subst (λ (n : Result Told SyncFault). Compared mine to rules n before mid) is (compared_by mine to rules r before mid fetched fails);
      puts = puts;
    }

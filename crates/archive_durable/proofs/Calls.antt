-- What a call of the keeper makes of the folder, from its clauses.
use Rattle.std.proofs.Common.{◌≡◌, ◌≢◌, ℕ, Bool, true, false, List, Option, None, Some, Result, Ok, Err, refl}
use Rattle.std.specs.Prelude.{OnOk, OnErr}
use Rattle.tws_file.specs.declared.«ruleset».Ruleset.{Ruleset}
use Rattle.folders.specs.Folder.{FolderModel, Stays, IsSettled}
use Rattle.folders.specs.Publishing.{Replaces, HasOnly}
use Rattle.archive_table.specs.declared.keep_fault.KeepFault.{KeepFault}
use Rattle.archive_keepers.specs.Names.{kept_name, draft_name}
use Rattle.archive_durable.specs.Crashes.{KeepDoes, StayKept, HasFiles, StartsWith}

pub keep-does : {D : Type 0} (m : FolderModel D) (old new : D) (rules : Ruleset) (text : List ℕ) (result : Result (Unit {0}) KeepFault) (usable : Bool) →
    OnOk result (HasOnly m new (kept_name rules) text) → Replaces m old new (kept_name rules) text →
    OnErr result (usable ≡ true → Stays m old new (kept_name rules)) →
    ((other : List ℕ) → other ≢ kept_name rules → other ≢ draft_name rules → Stays m old new other) →
    KeepDoes m old new rules text result usable
keep-does m old new rules text (Ok done) usable kept any_moment not_kept others = (record { any_moment = any_moment; others = others }, kept)
keep-does m old new rules text (Err fault) true kept any_moment not_kept others =
    (record { any_moment = any_moment; others = others }, not_kept refl)
keep-does m old new rules text (Err fault) false kept any_moment not_kept others = record { any_moment = any_moment; others = others }

-- what each file holds is what a crash leaves, once the folder is synced
pub starts-with : {D : Type 0} (m : FolderModel D) (old new : D) (text : Ruleset → Option (List ℕ)) → HasFiles m old text → StayKept m old new →
    ((rules : Ruleset) (left : Option (List ℕ)) → m.leaves new (kept_name rules) left → IsSettled (m.reads old (kept_name rules)) (m.holds old (kept_name rules)) left) →
    StartsWith m new text
starts-with m old new text files stay settled =
    record {
      read = λ rules read is. files.read rules read ((stay rules).possible.now read is);
      left = λ rules left is. by rules left (settled rules left is);
    }
  where
    by : (rules : Ruleset) (left : Option (List ℕ)) → IsSettled (m.reads old (kept_name rules)) (m.holds old (kept_name rules)) left → left ≡ text rules
    by rules None is = files.read rules None is
    by rules (Some held) is = files.held rules held is

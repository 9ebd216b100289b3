use Rattle.std.proofs.Common.{◌≡◌, ◌<◌, ◌≤◌, ℕ, List, true, Some}
use Rattle.folders.specs.Folder.{Stays}
use Rattle.archive_history.specs.History.{numbered}
use Rattle.archive_history.proofs.history.free_name.Given as goal

abbrev pub invariant-loop-number : goal.invariant-loop-number
invariant-loop-number g l = record {
  same : g.F.Folder.has_model ≡ true → (other : List ℕ) → Stays g.F.Folder.model l.fn.folder l.folder other;
  used : g.F.Folder.has_model ≡ true → (k : ℕ) → k < l.number → (text : List ℕ) × g.F.Folder.model.reads l.fn.folder (numbered l.stem k) (Some text);
  more : g.F.Folder.faults l.fn.folder ≤ g.F.Folder.faults l.folder;
}

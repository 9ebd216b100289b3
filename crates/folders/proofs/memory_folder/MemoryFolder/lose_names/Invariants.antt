use Rattle.std.proofs.Common.{◌≡◌, ◌+◌, length}
use Rattle.folders.specs.Memory.{newest, disk}
use Rattle.folders.proofs.memory_folder.MemoryFolder.lose_names.Given as goal

abbrev pub invariant-loop-popped : goal.invariant-loop-popped
invariant-loop-popped l = record {
  same : disk (newest l.self) ≡ disk (newest l.fn.self);
  count : length l.self.changes.items + l.popped ≡ length l.fn.self.changes.items;
}

use Rattle.std.proofs.Common.{◌≡◌, ◌≤◌, None, length, drop}
use Rattle.archive_table.specs.Keeper.{last_kept}
use Rattle.archive_memory.proofs.memory_keeper.last_of.Given as goal

-- no entry from here on was kept for this ruleset
abbrev pub invariant-loop-i : goal.invariant-loop-i
invariant-loop-i g l = (l.i ≤ length l.kept) × (last_kept l.ruleset (drop l.i l.kept) ≡ None)

abbrev pub decreases-loop-i : goal.decreases-loop-i
decreases-loop-i g l = l.i

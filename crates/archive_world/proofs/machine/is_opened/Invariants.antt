use Rattle.std.proofs.Common.{◌≡◌, ◌≤◌, false, length, drop}
use Rattle.archive_theorem.specs.Reuse.{was_opened}
use Rattle.archive_world.proofs.machine.is_opened.Given as goal

-- no opening from here on is for this peer at this port
abbrev pub invariant-loop-i : goal.invariant-loop-i
invariant-loop-i l = (l.i ≤ length l.openings) × (was_opened l.peer l.port (drop l.i l.openings) ≡ false)

abbrev pub decreases-loop-i : goal.decreases-loop-i
decreases-loop-i l = l.i

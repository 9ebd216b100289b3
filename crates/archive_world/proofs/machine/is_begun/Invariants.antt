use Rattle.std.proofs.Common.{◌≡◌, ◌≤◌, false, length, drop}
use Rattle.archive_model.specs.World.{has_begun}
use Rattle.archive_world.proofs.machine.is_begun.Given as goal

-- no operation from here on began at the endpoint
abbrev pub invariant-loop-i : goal.invariant-loop-i
invariant-loop-i g l = (l.i ≤ length l.begun) × (has_begun l.e (drop l.i l.begun) ≡ false)

abbrev pub decreases-loop-i : goal.decreases-loop-i
decreases-loop-i g l = l.i

use Rattle.std.proofs.Common.{◌≡◌, ◌≤◌, false, length, drop}
use Rattle.archive_theorem.specs.Reuse.{has_strayed}
use Rattle.archive_world.proofs.machine.is_strayed.Given as goal

-- no datagram from here on comes from the endpoint
abbrev pub invariant-loop-i : goal.invariant-loop-i
invariant-loop-i g l = (l.i ≤ length l.strays) × (has_strayed l.e (drop l.i l.strays) ≡ false)

abbrev pub decreases-loop-i : goal.decreases-loop-i
decreases-loop-i g l = l.i

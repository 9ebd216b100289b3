use Rattle.std.proofs.Common.{◌+◌, ◌*◌, ◌≤◌, length}
use Rattle.tws_moves.specs.Steps.{CountsSoFar}
use Rattle.tws_moves.proofs.counting.check_moves.Given as goal

abbrev pub invariant-loop-more : goal.invariant-loop-more
invariant-loop-more l = record {
  counts : CountsSoFar l.bytes l.rest l.count;
  bound : l.count + length l.rest * 3 ≤ length l.bytes * 3;
}

abbrev pub decreases-loop-more : goal.decreases-loop-more
decreases-loop-more l = length l.rest

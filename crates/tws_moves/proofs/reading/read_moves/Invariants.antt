use Rattle.std.proofs.Common.{◌+◌, ◌*◌, ◌≤◌, ◌^◌, length}
use Rattle.tws_moves.specs.Steps.{ReadsSoFar}
use Rattle.tws_moves.proofs.reading.read_moves.Given as goal

abbrev pub invariant-loop-piece : goal.invariant-loop-piece
invariant-loop-piece g l = record {
  reads : ReadsSoFar l.bytes l.rest l.moves.items l.next;
  bound : l.next + length l.rest * 2 ^ 27 ≤ length l.bytes * 2 ^ 27;
}

abbrev pub decreases-loop-piece : goal.decreases-loop-piece
decreases-loop-piece g l = length l.rest

use Rattle.std.proofs.Common.{length, ◌-◌}
use Rattle.tws_moves.specs.Move.{waits_from}
use Rattle.tws_moves.specs.Steps.{WritesSoFar}
use Rattle.tws_moves.proofs.writing.write_moves.Given as goal

abbrev pub invariant-loop-index : goal.invariant-loop-index
invariant-loop-index g l = WritesSoFar (waits_from 0 l.moves) l.bytes.items l.index

abbrev pub decreases-loop-index : goal.decreases-loop-index
decreases-loop-index g l = length l.moves - l.index

use Rattle.std.proofs.Common.{[], length}
use Rattle.tws_moves.specs.declared.pending.Pending.TheVariants as pending
use Rattle.tws_moves.specs.Steps.{PacksPieces}
use Rattle.tws_moves.proofs.pack.pack_moves.Given as goal

abbrev pub invariant-loop-piece : goal.invariant-loop-piece
invariant-loop-piece g l = PacksPieces l.bytes l.rest [] pending.None l.packed.items l.pending

abbrev pub decreases-loop-piece : goal.decreases-loop-piece
decreases-loop-piece g l = length l.rest

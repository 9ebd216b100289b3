use Rattle.std.proofs.Common.{ℕ, ◌+◌, ◌<◌, slice_index_or}
use Rattle.tws_moves.specs.Move.{Move}
use Rattle.tws_moves.proofs.moves.is_timed.Given as goal

-- the moves up to i are timed
abbrev pub invariant-loop-i : goal.invariant-loop-i
invariant-loop-i l = (j : ℕ) (m : Move) → j + 1 < l.i → (slice_index_or l.moves j m).at < (slice_index_or l.moves (j + 1) m).at

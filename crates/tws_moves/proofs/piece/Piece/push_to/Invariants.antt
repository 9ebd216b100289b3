use Rattle.std.proofs.Common.{◌≡◌, ◌++◌, ◌-◌}
use Rattle.tws_moves.specs.Bytes.{little_bytes}
use Rattle.tws_moves.proofs.piece.Piece.push_to.Given as goal

-- what is still to be appended is the rest of the number
abbrev pub invariant-loop : goal.invariant-loop
invariant-loop g l = l.bytes.items ++ little_bytes (l.fn.self.length - l.counter) l.rest ≡ l.fn.bytes.items ++ little_bytes l.fn.self.length l.fn.self.number

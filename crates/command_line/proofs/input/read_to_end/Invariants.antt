use Rattle.std.proofs.Common.{ℕ, ◌*◌, ◌≤◌, List, length}
use Rattle.std.specs.Io.KnownBytes.{Consumes}
use Rattle.command_line.proofs.input.read_to_end.Given as goal

-- the sink took what was read
abbrev pub invariant-loop : goal.invariant-loop
invariant-loop g l =
    (bytes : List ℕ) × g.S.InputSink.has_taken l.sink bytes × Consumes (g.R.Read.remaining l.fn.input) (g.R.Read.remaining l.input) bytes × (length bytes ≤ l.counter * 16384)

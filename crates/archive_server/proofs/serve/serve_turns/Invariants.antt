use Rattle.std.proofs.Common.{◌≤◌}
use Rattle.archive_server.specs.Turn.{MakesTurns}
use Rattle.archive_server.proofs.serve.serve_turns.Given as goal

abbrev pub invariant-loop-turn : goal.invariant-loop-turn
invariant-loop-turn g l =
    MakesTurns l._turn l.initial.server l.server l.taken (g.W.Wire.calls l.initial.wire) (g.W.Wire.calls l.wire) (g.K.Keeper.calls l.initial.keeper) (g.K.Keeper.calls l.keeper) × (l.taken ≤ l._turn)

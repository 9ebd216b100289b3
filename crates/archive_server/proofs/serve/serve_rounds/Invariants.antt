use Rattle.std.proofs.Common.{◌≤◌}
use Rattle.archive_server.specs.Turn.{MakesRounds}
use Rattle.archive_server.proofs.serve.serve_rounds.Given as goal

abbrev pub invariant-loop-round : goal.invariant-loop-round
invariant-loop-round g l =
    MakesRounds l._round l.initial.server l.server l.taken (g.W.Wire.calls l.initial.wire) (g.W.Wire.calls l.wire) (g.K.Keeper.calls l.initial.keeper) (g.K.Keeper.calls l.keeper) × (l.taken ≤ l._round)

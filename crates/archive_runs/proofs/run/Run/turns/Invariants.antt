use Rattle.archive_client.specs.Client.{is_over}
use Rattle.archive_runs.specs.Run.{IsRunTurn, MakesSome}
use Rattle.archive_runs.proofs.run.Run.turns.Given as goal

abbrev pub invariant-loop-turn : goal.invariant-loop-turn
invariant-loop-turn g l =
    MakesSome IsRunTurn is_over l._turn l.initial.self l.self (g.W.Wire.calls l.initial.wire) (g.W.Wire.calls l.wire)

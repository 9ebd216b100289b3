use Rattle.archive_runs.specs.Run.{MakesSome}
use Rattle.archive_runs.specs.Rounds.{IsRunRound, asking, has_ended}
use Rattle.archive_runs.proofs.run.Run.rounds_on.Given as goal

abbrev pub invariant-loop-round : goal.invariant-loop-round
invariant-loop-round g l =
    MakesSome (IsRunRound asking) has_ended l._round l.initial.self l.self (g.W.Wire.calls l.initial.wire) (g.W.Wire.calls l.wire)

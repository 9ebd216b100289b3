use Rattle.std.specs.Prelude.{false}
use Rattle.archive_runs.specs.Rounds.{MakesDallies}
use Rattle.archive_runs.proofs.run.Run.dally_on.Given as goal

abbrev pub invariant-loop-round : goal.invariant-loop-round
invariant-loop-round g l =
    MakesDallies l.fn.pace false l._round l.initial.self l.self (g.W.Wire.calls l.initial.wire) (g.W.Wire.calls l.wire)

use Rattle.std.proofs.Common.{false}
use Rattle.archive_runs.proofs.Rounding.{dallies_none, dallies_more, dally_ended}
use Rattle.archive_runs.proofs.run.Run.dally_on.Goals as goal

pub loop-round-init : goal.loop-round-init
loop-round-init g c = dallies_none _ _ _

pub returns-then-make_round : goal.returns-then-make_round
returns-then-make_round g c =
    dally_ended _ _ _ _ _ _ _ c.loop-round-test.true c.loop-round.invariant c.if-make_round.true c.make_round.ensures

pub loop-round-preserved : goal.loop-round-preserved
loop-round-preserved g c =
    dallies_more _ false _ _ _ _ _ c.loop-round.invariant c.if-make_round.false c.make_round.ensures

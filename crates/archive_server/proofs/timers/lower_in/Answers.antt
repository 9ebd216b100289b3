use Rattle.byte_output.proofs.Rows.{written_more}
use Rattle.archive_server.proofs.timers.lower_in.Goals as goal

pub loop-timer-preserved : goal.loop-timer-preserved
loop-timer-preserved c =
    written_more _ _ _ _ _ _ c.loop-timer-test.true c.loop-timer.auto.row c.loop-timer.invariant c.one_less.ensures

use Rattle.archive_wire.specs.Wire.{was_done}
use Rattle.archive_runs.proofs.Running.{begin_failed, begin_made, begin_long, short_put, long_put}
use Rattle.archive_runs.proofs.run.Run+Put+A.begin.Goals as goal

pub returns-in-Err : goal.returns-in-Err
returns-in-Err g c = begin_failed _ _ c.in-Err.ensures.calls

pub returns-in-Ok-start : goal.returns-in-Ok-start
returns-in-Ok-start g c =
    begin_made _ _ _ _ _ (was_done c.send.result) (short_put _ c.in-Ok-start.ensures.short) c.in-Ok-start.ensures.client c.in-Ok-start.ensures.sent c.in-Ok.ensures.calls c.send.ensures.calls

pub returns : goal.returns
returns g c =
    begin_long _ _ _ (was_done c.close.result) (long_put _ c.in-Err-start.ensures.long) c.in-Ok.ensures.calls c.close.ensures.calls

use Rattle.std.proofs.Common.{refl}
use Rattle.archive_wire.specs.Wire.{was_done}
use Rattle.archive_runs.proofs.Running.{begin_failed, begin_made}
use Rattle.archive_runs.proofs.run.Run+Get+A.begin.Goals as goal

pub returns-in-Err : goal.returns-in-Err
returns-in-Err g c = begin_failed _ _ c.in-Err.ensures.calls

pub returns : goal.returns
returns g c =
    begin_made _ _ _ _ _ (was_done c.send.result) refl c.start-client.ensures.client c.start-client.ensures.sent c.in-Ok.ensures.calls c.send.ensures.calls

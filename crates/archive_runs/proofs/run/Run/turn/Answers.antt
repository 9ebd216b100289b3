use Rattle.std.proofs.Common.{ap}
use Rattle.archive_runs.specs.Run.{Run}
use Rattle.archive_wire.proofs.Growing.{grows_come, grows_quiet}
use Rattle.archive_runs.proofs.Running.{turn_received, turn_quiet, turn_failed}
use Rattle.archive_runs.proofs.run.Run.turn.Goals as goal

pub returns-in-Ok-Some : goal.returns-in-Ok-Some
returns-in-Ok-Some g c =
    turn_received _ _ _ _ _ _ (ap (λ (r : Run). r.port) c.self.view_is) (grows_come _ _ _ _ _ c.in-Ok-Some.field-0-is c.in-Ok-Some.ensures.calls) c.take.ensures.ran

pub returns-in-Ok-None : goal.returns-in-Ok-None
returns-in-Ok-None g c =
    turn_quiet _ _ _ (ap (λ (r : Run). r.port) c.self.view_is) (grows_quiet _ c.receive.new.buffer _ c.in-Ok-None.field-0-is c.in-Ok-None.ensures.calls) c.wait.ensures

pub returns-in-Err : goal.returns-in-Err
returns-in-Err g c =
    turn_failed _ _ _ (ap (λ (r : Run). r.port) c.self.view_is) c.in-Err.ensures.calls c.wait-in-Err.ensures

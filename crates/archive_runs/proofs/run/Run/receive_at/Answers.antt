use Rattle.std.proofs.Common.{ap}
use Rattle.archive_runs.specs.Run.{Run}
use Rattle.archive_wire.proofs.Growing.{grows_come}
use Rattle.archive_runs.proofs.Rounding.{received}
use Rattle.archive_runs.proofs.run.Run.receive_at.Goals as goal

pub returns-in-Ok-Some : goal.returns-in-Ok-Some
returns-in-Ok-Some g c =
    received _ _ _ _ _ _ _ (ap (λ (r : Run). r.port) c.self.view_is) (grows_come _ _ _ _ _ c.in-Ok-Some.field-0-is c.in-Ok-Some.ensures.calls) c.take_at.ensures

use Rattle.archive_wire.specs.Wire.{was_done}
use Rattle.archive_server.proofs.Acting.{acts_close, acts_keep}
use Rattle.archive_server.proofs.visit.close.Goals as goal

pub returns-then-closes : goal.returns-then-closes
returns-then-closes g c = acts_close _ _ (was_done c.close.result) c.if-closes.true c.close.ensures.calls

pub returns-else-closes : goal.returns-else-closes
returns-else-closes g c = acts_keep _ _ _ c.if-closes.false

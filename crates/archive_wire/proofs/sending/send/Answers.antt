use Rattle.archive_wire.specs.Wire.{was_done}
use Rattle.archive_wire.proofs.Sends.{sends_some, sends_none}
use Rattle.archive_wire.proofs.sending.send.Goals as goal

pub returns-in-Some : goal.returns-in-Some
returns-in-Some g c = sends_some _ _ (was_done c.send.result) c.in-Some.is c.send.ensures.calls

pub returns-in-None : goal.returns-in-None
returns-in-None g c = sends_none _ _ c.in-None.is

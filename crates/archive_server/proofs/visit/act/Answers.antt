use Rattle.archive_server.proofs.Acting.{acts_both}
use Rattle.archive_server.proofs.visit.act.Goals as goal

pub returns : goal.returns
returns g c = acts_both _ _ _ c.send.ensures c.close.ensures

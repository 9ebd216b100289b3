use Rattle.archive_server.proofs.Turns.{visit_none}
use Rattle.archive_server.proofs.server.visit.Goals as goal

pub returns-in-Nowhere-clause-visit : goal.returns-in-Nowhere-clause-visit
returns-in-Nowhere-clause-visit g c = visit_none _ _ _ _ _ _ c.in-Nowhere.is

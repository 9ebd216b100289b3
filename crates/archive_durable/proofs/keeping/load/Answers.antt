use Rattle.archive_keepers.specs.Names.{kept_name}
use Rattle.archive_durable.proofs.keeping.load.Goals as goal

pub returns-clause-stay : goal.returns-clause-stay
returns-clause-stay g c = λ modelled named. c.load.ensures.all modelled (kept_name named)

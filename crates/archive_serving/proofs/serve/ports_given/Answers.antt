use Rattle.archive_serving.proofs.Ranges.{names_none}
use Rattle.archive_serving.proofs.serve.ports_given.Goals as goal

pub returns-in-None-clause-none : goal.returns-in-None-clause-none
returns-in-None-clause-none c = names_none _ c.in-Some.text.now c.in-Some.ensures.some c.in-None.ensures.none

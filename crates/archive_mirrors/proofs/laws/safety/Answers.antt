use Rattle.archive_mirrors.specs.Archives.{start}
use Rattle.archive_mirrors.proofs.Moving.{own-sources, sources-outside}
use Rattle.archive_mirrors.proofs.Concluding.{sources-best, entries-outside}
use Rattle.archive_mirrors.proofs.laws.safety.Goals as goal

pub returns-clause-best : goal.returns-clause-best
returns-clause-best c = sources-best

pub returns-clause-own : goal.returns-clause-own
returns-clause-own c = λ events. own-sources events start

pub returns-clause-outside : goal.returns-clause-outside
returns-clause-outside c = sources-outside

pub returns-clause-entries : goal.returns-clause-entries
returns-clause-entries c = entries-outside

use Rattle.archive_world.proofs.Beginnings.{from-nothing, nothing-headline, nothing-fails}
use Rattle.archive_world.proofs.laws.empty_keeper.Goals as goal

pub returns-clause-start : goal.returns-clause-start
returns-clause-start c = from-nothing

pub returns-clause-headline : goal.returns-clause-headline
returns-clause-headline c = nothing-headline

pub returns-clause-fails : goal.returns-clause-fails
returns-clause-fails c = nothing-fails

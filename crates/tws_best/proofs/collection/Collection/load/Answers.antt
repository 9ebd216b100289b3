use Rattle.std.proofs.Common.{rules}
use Rattle.tws_best.proofs.collection.Collection.load.Goals as goal

pub returns-clause-best : goal.returns-clause-best
returns-clause-best g c = search rules

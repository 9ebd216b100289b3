use Rattle.std.proofs.Common.{rules}
use Rattle.tws_best.proofs.collection.Collection.copy.Goals as goal

pub returns-clause-equal : goal.returns-clause-equal
returns-clause-equal g c = search rules

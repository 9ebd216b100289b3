use Rattle.std.proofs.Common.{rules}
use Rattle.tws_best.proofs.collection.Collection.ruleset.Goals as goal

pub returns : goal.returns
returns g c = search rules

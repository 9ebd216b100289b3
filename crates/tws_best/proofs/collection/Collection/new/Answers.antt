use Rattle.std.proofs.Common.{rules}
use Rattle.tws_best.proofs.collection.Collection.new.Goals as goal

pub returns-clause-rules : goal.returns-clause-rules
returns-clause-rules g c = search rules

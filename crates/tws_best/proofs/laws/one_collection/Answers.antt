use Rattle.tws_best.proofs.Sets.{one_collection}
use Rattle.tws_best.proofs.laws.one_collection.Goals as goal

pub returns : goal.returns
returns c = one_collection

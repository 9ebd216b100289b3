use Rattle.tws_compare.proofs.Improving.{equal_bodies}
use Rattle.tws_compare.proofs.laws.equal_bodies.Goals as goal

pub returns : goal.returns
returns c = equal_bodies

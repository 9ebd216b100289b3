use Rattle.tws_compare.proofs.Dropping.{others_stay}
use Rattle.tws_compare.proofs.laws.other_levels_stay.Goals as goal

pub returns : goal.returns
returns c = others_stay

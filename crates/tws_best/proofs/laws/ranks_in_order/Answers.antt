use Rattle.tws_best.specs.RankOrder.{rank_total}
use Rattle.tws_best.proofs.laws.ranks_in_order.Goals as goal

pub returns : goal.returns
returns c = rank_total

use Rattle.tws_best.proofs.Orders.{rank_tie}
use Rattle.tws_best.proofs.laws.one_rank.Goals as goal

pub returns : goal.returns
returns c = rank_tie

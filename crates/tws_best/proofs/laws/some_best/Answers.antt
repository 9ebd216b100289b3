use Rattle.tws_best.proofs.Choices.{best_of_is}
use Rattle.tws_best.proofs.laws.some_best.Goals as goal

pub returns : goal.returns
returns c = best_of_is

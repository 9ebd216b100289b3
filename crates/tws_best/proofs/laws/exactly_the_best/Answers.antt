use Rattle.std.specs.List.{Contains}
use Rattle.tws_best.proofs.Bests.{best_present}
use Rattle.tws_best.proofs.laws.exactly_the_best.Goals as goal

pub returns : goal.returns
returns c = λ xs es e of. (λ has. of.best e has, λ best. best_present (Contains xs) es e of best)

use Rattle.tws_best.proofs.Sets.{best_of_best, best_of_all, best_of_three}
use Rattle.tws_best.proofs.laws.best_of_best.Goals as goal

pub returns-clause-together : goal.returns-clause-together
returns-clause-together c = best_of_best

pub returns-clause-beside : goal.returns-clause-beside
returns-clause-beside c = best_of_three

pub returns-clause-apart : goal.returns-clause-apart
returns-clause-apart c = best_of_all

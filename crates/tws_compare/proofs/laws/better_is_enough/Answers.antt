use Rattle.tws_compare.proofs.Improving.{file_enough, file_stays}
use Rattle.tws_compare.proofs.laws.better_is_enough.Goals as goal

pub returns-clause-enough : goal.returns-clause-enough
returns-clause-enough c = file_enough

pub returns-clause-stays : goal.returns-clause-stays
returns-clause-stays c = file_stays

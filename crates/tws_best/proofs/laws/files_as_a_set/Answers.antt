use Rattle.tws_best.proofs.Sets.{same_files}
use Rattle.tws_best.proofs.laws.files_as_a_set.Goals as goal

pub returns : goal.returns
returns c = λ rules files more es same best. same_files rules files more es (λ f. (same f).0) (λ f. (same f).1) best

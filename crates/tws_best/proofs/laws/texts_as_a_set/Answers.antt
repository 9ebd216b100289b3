use Rattle.tws_best.proofs.Sets.{same_texts}
use Rattle.tws_best.proofs.laws.texts_as_a_set.Goals as goal

pub returns : goal.returns
returns c = λ rules texts more d same of. same_texts rules texts more d (λ t. (same t).0) (λ t. (same t).1) of

use Rattle.tws_best.proofs.Sets.{no_texts}
use Rattle.tws_best.proofs.laws.collection_of_none.Goals as goal

pub returns : goal.returns
returns c = no_texts

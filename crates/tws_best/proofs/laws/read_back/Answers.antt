use Rattle.tws_best.proofs.Texts.{file_from, is_text, read_back}
use Rattle.tws_best.proofs.Sets.{own_collection}
use Rattle.tws_best.proofs.laws.read_back.Goals as goal

pub returns-clause-readable : goal.returns-clause-readable
returns-clause-readable c = λ d fits. (file_from d fits, is_text d fits)

pub returns-clause-loaded : goal.returns-clause-loaded
returns-clause-loaded c = read_back

pub returns-clause-itself : goal.returns-clause-itself
returns-clause-itself c = own_collection

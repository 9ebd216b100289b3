use Rattle.web_exports.proofs.Delivering.{delivered}
use Rattle.web_exports.proofs.exports.files_compared.Goals as goal

pub returns : goal.returns
returns c = delivered (λ text. text.items) _ _ c.compared.result _ _ _ _ c.compared.ensures.answers c.compared.ensures.fails c.deliver.ensures

use Rattle.web_exports.proofs.Delivering.{delivered}
use Rattle.web_exports.proofs.exports.files_best.Goals as goal

pub returns : goal.returns
returns c = delivered (λ text. text.items) _ _ c.best.result _ _ _ _ c.best.ensures.answers c.best.ensures.fails c.deliver.ensures

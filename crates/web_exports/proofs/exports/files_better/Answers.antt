use Rattle.web_exports.proofs.Delivering.{delivered}
use Rattle.web_exports.proofs.exports.files_better.Goals as goal

pub returns : goal.returns
returns c = delivered (λ text. text.items) _ _ c.better.result _ _ _ _ c.better.ensures.answers c.better.ensures.fails c.deliver.ensures

use Rattle.web_exports.proofs.Delivering.{delivered}
use Rattle.web_exports.proofs.exports.file_packed.Goals as goal

pub returns : goal.returns
returns c = delivered (λ text. text.items) _ _ c.packed.result _ _ _ _ c.packed.ensures.answers c.packed.ensures.fails c.deliver.ensures

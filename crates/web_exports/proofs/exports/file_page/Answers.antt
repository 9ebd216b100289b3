use Rattle.web_exports.proofs.Delivering.{delivered}
use Rattle.web_exports.proofs.exports.file_page.Goals as goal

pub returns : goal.returns
returns c = delivered (λ text. text.items) _ _ c.page.result _ _ _ _ c.page.ensures.answers c.page.ensures.fails c.deliver.ensures

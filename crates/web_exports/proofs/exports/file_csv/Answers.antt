use Rattle.web_exports.proofs.Delivering.{delivered}
use Rattle.web_exports.proofs.exports.file_csv.Goals as goal

pub returns : goal.returns
returns c = delivered (λ text. text.items) _ _ c.csv.result _ _ _ _ c.csv.ensures.answers c.csv.ensures.fails c.deliver.ensures

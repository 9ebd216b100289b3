use Rattle.std.proofs.Common.{rules}
use Rattle.tws_compare.proofs.text.comparison_text.Goals as goal

pub returns : goal.returns
returns g c = search rules

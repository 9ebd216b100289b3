use Rattle.std.proofs.Common.{rules}
use Rattle.tws_compare.proofs.counts.Counts.of.Goals as goal

pub returns : goal.returns
returns c = search rules

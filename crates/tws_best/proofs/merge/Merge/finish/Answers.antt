use Rattle.std.proofs.Common.{rules}
use Rattle.tws_best.proofs.merge.Merge.finish.Goals as goal

pub returns : goal.returns
returns g c = search rules

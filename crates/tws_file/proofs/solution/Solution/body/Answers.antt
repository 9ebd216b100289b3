use Rattle.std.proofs.Common.{rules}
use Rattle.tws_file.proofs.solution.Solution.body.Goals as goal

pub returns : goal.returns
returns g c = search rules

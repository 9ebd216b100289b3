use Rattle.std.specs.List.{Contains}
use Rattle.tws_best.proofs.Bests.{one_map}
use Rattle.tws_best.proofs.laws.one_best.Goals as goal

pub returns : goal.returns
returns c = λ xs ds es. one_map (Contains xs) ds es

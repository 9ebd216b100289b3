use Rattle.tws_moves.proofs.Spellings.{moves_in_spelled}
use Rattle.tws_moves.proofs.laws.moves_by_function.Goals as goal

pub returns : goal.returns
returns c = moves_in_spelled

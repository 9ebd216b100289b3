use Rattle.tws_moves.proofs.Spellings.{one_reading}
use Rattle.tws_moves.proofs.laws.one_reading.Goals as goal

pub returns : goal.returns
returns c = one_reading

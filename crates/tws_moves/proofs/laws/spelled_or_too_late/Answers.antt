use Rattle.tws_moves.proofs.LateMoves.{late_or_spelled, one_index}
use Rattle.tws_moves.proofs.laws.spelled_or_too_late.Goals as goal

pub returns-clause-either : goal.returns-clause-either
returns-clause-either c = late_or_spelled

pub returns-clause-one_index : goal.returns-clause-one_index
returns-clause-one_index c = one_index

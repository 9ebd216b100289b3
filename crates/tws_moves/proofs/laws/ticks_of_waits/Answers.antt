use Rattle.tws_moves.proofs.Ticks.{moves_of_waits, moves_alone}
use Rattle.tws_moves.proofs.laws.ticks_of_waits.Goals as goal

pub returns-clause-made : goal.returns-clause-made
returns-clause-made c = moves_of_waits

pub returns-clause-alone : goal.returns-clause-alone
returns-clause-alone c = moves_alone

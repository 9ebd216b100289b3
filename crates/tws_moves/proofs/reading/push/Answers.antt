use Rattle.std.proofs.Common.{rules}
use Rattle.tws_moves.proofs.reading.push.Goals as goal

pub returns-clause-moves : goal.returns-clause-moves
returns-clause-moves g c = search rules

use Rattle.tws_moves.specs.Shortest.{shortest_of}
use Rattle.tws_moves.proofs.Spellings.{one_reading}
use Rattle.tws_moves.proofs.Least.{spelled_least}
use Rattle.tws_moves.proofs.PackedBytes.{shortest}
use Rattle.tws_moves.proofs.laws.shortest_by_function.Goals as goal

pub returns-clause-shortest : goal.returns-clause-shortest
returns-clause-shortest c = shortest

pub returns-clause-no_longer : goal.returns-clause-no_longer
returns-clause-no_longer c = spelled_least

pub returns-clause-reads_back : goal.returns-clause-reads_back
returns-clause-reads_back c = λ moves others spelled spells. one_reading (shortest_of moves) others moves spells (shortest moves spelled).spells

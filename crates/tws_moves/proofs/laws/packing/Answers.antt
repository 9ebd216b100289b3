use Rattle.tws_moves.specs.Shortest.{packed_bytes}
use Rattle.tws_moves.proofs.PackedBytes.{packed_shortest, packed_no_longer, packed_once, spelling_is_bytes}
use Rattle.tws_moves.proofs.laws.packing.Goals as goal

pub returns-clause-spells : goal.returns-clause-spells
returns-clause-spells c = λ bytes moves spells. (packed_shortest bytes moves spells).spells

pub returns-clause-shortest : goal.returns-clause-shortest
returns-clause-shortest c = packed_shortest

pub returns-clause-no_longer : goal.returns-clause-no_longer
returns-clause-no_longer c = λ bytes spelled. packed_no_longer bytes spelled.0 spelled.1

pub returns-clause-once : goal.returns-clause-once
returns-clause-once c = λ bytes spelled. packed_once bytes spelled.0 spelled.1

pub returns-clause-bytes : goal.returns-clause-bytes
returns-clause-bytes c = λ bytes spelled. spelling_is_bytes (packed_bytes bytes) spelled.0 (packed_shortest bytes spelled.0 spelled.1).spells

use Rattle.tws_moves.proofs.Least.{spelled_timed}
use Rattle.tws_moves.proofs.PackedBytes.{spelling_is_bytes}
use Rattle.tws_moves.proofs.laws.spelled_moves_are_timed.Goals as goal

pub returns-clause-timed : goal.returns-clause-timed
returns-clause-timed c = spelled_timed

pub returns-clause-bytes : goal.returns-clause-bytes
returns-clause-bytes c = spelling_is_bytes

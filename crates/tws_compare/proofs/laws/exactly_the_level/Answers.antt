use Rattle.std.proofs.Common.{not}
use Rattle.tws_compare.specs.Without.{solves}
use Rattle.tws_compare.proofs.Dropping.{left, in_order}
use Rattle.tws_compare.proofs.laws.exactly_the_level.Goals as goal

pub returns-clause-left : goal.returns-clause-left
returns-clause-left c = left

pub returns-clause-in_order : goal.returns-clause-in_order
returns-clause-in_order c = λ key. in_order (λ r. not (solves key r))

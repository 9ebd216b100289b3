use Rattle.std.proofs.Common.{List, length}
use Rattle.tws_best.specs.Bodies.{BodyPair}
use Rattle.tws_best.specs.Steps.{Undoes}
use Rattle.tws_best.proofs.changes.undo.Given as goal

abbrev pub invariant-loop-key : goal.invariant-loop-key
invariant-loop-key g l = (first : List BodyPair) → Undoes first l.fn.done.items l.fn.best → Undoes first l.done.items l.best

abbrev pub decreases-loop-key : goal.decreases-loop-key
decreases-loop-key g l = length l.done.items

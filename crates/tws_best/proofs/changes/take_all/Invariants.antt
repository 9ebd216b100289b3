use Rattle.std.proofs.Common.{List, length, map, take, ◌++◌}
use Rattle.tws_best.specs.Best.{KeyedBody, keyed_body}
use Rattle.tws_best.specs.Bodies.{BodyPair}
use Rattle.tws_best.specs.Steps.{Undoes, IsTaken}
use Rattle.tws_best.proofs.changes.take_all.Given as goal

abbrev pub invariant-loop-solution : goal.invariant-loop-solution
invariant-loop-solution g l = record {
  taken : (first : List BodyPair) (before : List KeyedBody) → IsTaken first before l.fn.best (length l.fn.done.items)
      → IsTaken first (before ++ map (λ s. keyed_body s.1.now) (take l.solution-index l.solutions)) l.best (length l.done.items);
  undo : (first : List BodyPair) → Undoes first l.fn.done.items l.fn.best → Undoes first l.done.items l.best;
}

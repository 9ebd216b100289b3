use Rattle.std.proofs.Common.{◌≡◌, ◌+◌, ◌++◌, length}
use Rattle.std.specs.BTreeMap.{values}
use Rattle.tws_best.specs.Frozen.{starts_from}
use Rattle.tws_best.proofs.BodyTexts.{texts}
use Rattle.tws_best.proofs.snapshot.Snapshot.of.Given as goal

abbrev pub invariant-loop-body : goal.invariant-loop-body
invariant-loop-body g l = record {
  all : l.bodies.items ++ l.body-iterator ≡ values l.best;
  starts : l.starts.items ≡ starts_from 8 l.bodies.items;
  len : l.len ≡ 8 + length (texts l.bodies.items);
}

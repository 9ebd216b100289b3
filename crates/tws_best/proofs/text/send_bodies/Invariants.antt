use Rattle.std.proofs.Common.{◌++◌}
use Rattle.std.specs.BTreeMap.{values}
use Rattle.byte_output.specs.Output.{Sends}
use Rattle.tws_best.proofs.BodyTexts.{texts}
use Rattle.tws_best.proofs.text.send_bodies.Given as goal

abbrev pub invariant-loop-body : goal.invariant-loop-body
invariant-loop-body g l =
    Sends (g.W.Write.contents l.fn.out) (g.W.Write.contents l.out) (l.fn.buffer ++ texts (values l.best)) (l.buffer ++ texts l.body-iterator)

use Rattle.std.proofs.Common.{length}
use Rattle.byte_output.specs.Output.{Sends}
use Rattle.byte_output.proofs.output.put.Given as goal

abbrev pub invariant-loop-rest : goal.invariant-loop-rest
invariant-loop-rest g l = Sends (g.W.Write.contents l.fn.out) (g.W.Write.contents l.out) l.bytes l.rest

abbrev pub decreases-loop-rest : goal.decreases-loop-rest
decreases-loop-rest g l = length l.rest

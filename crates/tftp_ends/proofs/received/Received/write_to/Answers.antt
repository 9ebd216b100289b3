use Rattle.std.proofs.lemmas.Grind.{common_steps}
use Rattle.std.proofs.Common.{rules, arith}
use Rattle.byte_output.proofs.Sending.{at_err}
use Rattle.tftp_ends.proofs.Chunking.{written, prefix_written}
use Rattle.tftp_ends.proofs.received.Received.write_to.Goals as goal

pub returns-in_err-put-clause-err : goal.returns-in_err-put-clause-err
returns-in_err-put-clause-err g c =
    at_err c.from_residual.result
    (prefix_written (g.W.Write.contents c.args.out.now) (g.W.Write.contents c.loop-i.out)
    (g.W.Write.contents c.put.new.out) c.args.self.now c.chunk.result.now c.loop-i.i c.chunk.ensures c.loop-i.invariant c.in_err-put.ensures.err)

pub loop-i-preserved : goal.loop-i-preserved
loop-i-preserved g c =
    written (g.W.Write.contents c.args.out.now) (g.W.Write.contents c.loop-i.out)
    (g.W.Write.contents c.put.new.out) c.args.self.now c.chunk.result.now c.loop-i.i c.chunk.ensures c.loop-i.invariant c.in_ok-put.ensures.ok

pub returns-clause-err : goal.returns-clause-err
returns-clause-err g c = search rules

pub returns-clause-ok : goal.returns-clause-ok
returns-clause-ok g c = grind (arith, common_steps)

use Rattle.byte_output.proofs.Sending.{Sends-more}
use Rattle.byte_output.proofs.output.put.Goals as goal

pub loop-rest-preserved : goal.loop-rest-preserved
loop-rest-preserved g c =
    Sends-more (g.W.Write.contents c.args.out.now) (g.W.Write.contents c.loop-rest.out)
    (g.W.Write.contents c.write.new.self) c.args.bytes.now c.loop-rest.rest.now c.in-Ok.count c.loop-rest.invariant c.in-Ok.ensures.bytes

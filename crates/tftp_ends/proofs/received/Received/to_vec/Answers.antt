use Rattle.std.proofs.Common.{arith}
use Rattle.std.proofs.lemmas.Grind.{common_steps}
use Rattle.tftp_ends.proofs.Chunking.{gathered}
use Rattle.tftp_ends.proofs.received.Received.to_vec.Goals as goal

pub loop-i-preserved : goal.loop-i-preserved
loop-i-preserved g c =
    gathered c.args.self.now c.loop-i.bytes.items c.chunk.result.now c.extend_from_slice.new.self.items c.loop-i.i c.loop-i.invariant c.chunk.ensures c.in_ok-extend_from_slice.ensures.items

pub returns : goal.returns
returns g c = grind (arith, common_steps)

use Rattle.std.proofs.Common.{arith}
use Rattle.tftp_packet.proofs.Bytes.{part_placed}
use Rattle.tftp_packet.proofs.dgram.put_block.Goals as goal

pub returns-clause-bytes : goal.returns-clause-bytes
returns-clause-bytes g c =
    part_placed c.args.buffer.now c.block.new.out _ _ 4 c.block.result (omega (arith, c.fits-buffer)) (omega (arith, c.fits-buffer)) c.block.ensures.bytes

use Rattle.std.proofs.Common.{◌≡◌, length, ap, arith, rules}
use Rattle.tftp_packet.specs.Blocks.{block_of}
use Rattle.tftp_packet.specs.Packet.{data_bytes}
use Rattle.tftp_packet.proofs.Cutting.{length-block_of-le}
use Rattle.tftp_packet.proofs.encoding.encode_block.Goals as goal

pub returns-clause-packet : goal.returns-clause-packet
returns-clause-packet g c =
    let file = g.B.Blocks.file c.args.blocks.now in
    let few = length-block_of-le file c.args.k in
    let form : c.push_block.new.self ≡ data_bytes c.args.k (block_of file c.args.k) = search rules in
    record { fields = (c.ranges.k.fits, few); size = omega (arith, ap length form, few); form = form }

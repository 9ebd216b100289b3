use Rattle.std.proofs.Common.{arith}
use Rattle.tftp_packet.proofs.Results.{answer_packet, answer_accepts, answer_fault, answer_refuses}
use Rattle.tftp_packet.proofs.decoding.decode.Goals as goal

pub returns-clause-packet : goal.returns-clause-packet
returns-clause-packet c =
    answer_packet c.args.bytes.now c.read_packet.result (λ i. omega (arith, c.type_inv.bytes i)) c.read_packet.ensures

pub returns-clause-accepts : goal.returns-clause-accepts
returns-clause-accepts c = answer_accepts c.args.bytes.now c.read_packet.result c.read_packet.ensures

pub returns-clause-fault : goal.returns-clause-fault
returns-clause-fault c =
    answer_fault c.args.bytes.now c.read_packet.result (λ i. omega (arith, c.type_inv.bytes i)) c.read_packet.ensures

pub returns-clause-refuses : goal.returns-clause-refuses
returns-clause-refuses c = answer_refuses c.args.bytes.now c.read_packet.result c.read_packet.ensures

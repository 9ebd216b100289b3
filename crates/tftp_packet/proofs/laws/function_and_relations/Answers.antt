use Rattle.tftp_packet.proofs.Packets.{decoded_packet, decoded_fault, decode_bytes-packet, decode_bytes-fault}
use Rattle.tftp_packet.proofs.laws.function_and_relations.Goals as goal

pub returns-clause-packet : goal.returns-clause-packet
returns-clause-packet c = λ bytes p fits. (decoded_packet bytes p fits, decode_bytes-packet p bytes)

pub returns-clause-fault : goal.returns-clause-fault
returns-clause-fault c = λ bytes e fits. (decoded_fault bytes e fits, decode_bytes-fault bytes e)

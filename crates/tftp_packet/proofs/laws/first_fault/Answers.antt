use Rattle.tftp_packet.proofs.Order.{first_fault, fault_first}
use Rattle.tftp_packet.proofs.laws.first_fault.Goals as goal

pub returns : goal.returns
returns c = λ bytes e. (first_fault bytes e, fault_first bytes e)

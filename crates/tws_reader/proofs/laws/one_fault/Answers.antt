use Rattle.tws_reader.proofs.Faults.{one_fault}
use Rattle.tws_reader.proofs.laws.one_fault.Goals as goal

pub returns : goal.returns
returns c = one_fault

use Rattle.tws_reader.proofs.Faults.{text_without_fault}
use Rattle.tws_reader.proofs.laws.text_without_fault.Goals as goal

pub returns : goal.returns
returns c = text_without_fault

use Rattle.tws_reader.proofs.Readable.{readable_or_fault}
use Rattle.tws_reader.proofs.laws.text_or_fault.Goals as goal

pub returns : goal.returns
returns c = readable_or_fault

use Rattle.tws_file.proofs.FileText.{one_file}
use Rattle.tws_file.proofs.laws.one_file.Goals as goal

pub returns : goal.returns
returns c = one_file

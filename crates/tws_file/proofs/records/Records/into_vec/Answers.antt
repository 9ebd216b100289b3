use Rattle.std.proofs.Common.{rules}
use Rattle.tws_file.proofs.records.Records.into_vec.Goals as goal

pub returns : goal.returns
returns g c = search rules

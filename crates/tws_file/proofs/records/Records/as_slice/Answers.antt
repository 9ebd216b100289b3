use Rattle.std.proofs.Common.{rules}
use Rattle.tws_file.proofs.records.Records.as_slice.Goals as goal

pub returns : goal.returns
returns g c = search rules

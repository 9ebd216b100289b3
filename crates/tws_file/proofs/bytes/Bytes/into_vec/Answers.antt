use Rattle.std.proofs.Common.{rules}
use Rattle.tws_file.proofs.bytes.Bytes.into_vec.Goals as goal

pub returns : goal.returns
returns g c = search rules

use Rattle.std.proofs.Common.{rules}
use Rattle.tws_reader.proofs.reader.Reader.new.Goals as goal

pub returns : goal.returns
returns g c = search rules

use Rattle.std.proofs.Common.{rules}
use Rattle.tws_reader.proofs.part_reader.PartReader.push.Goals as goal

pub returns-in-Ok-clause-hands_out : goal.returns-in-Ok-clause-hands_out
returns-in-Ok-clause-hands_out g c = search rules

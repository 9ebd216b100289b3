use Rattle.std.proofs.Common.{rules}
use Rattle.tws_reader.proofs.part_reader.PartReader.new.Goals as goal

pub returns-clause-value : goal.returns-clause-value
returns-clause-value g c = search rules

pub returns-clause-read : goal.returns-clause-read
returns-clause-read g c = search rules

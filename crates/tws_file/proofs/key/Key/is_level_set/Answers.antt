use Rattle.std.proofs.Common.{rules}
use Rattle.tws_file.proofs.key.Key.is_level_set.Goals as goal

pub returns : goal.returns
returns c = search rules

use Rattle.std.proofs.Common.{rules}
use Rattle.tws_file.proofs.ruleset.Ruleset.file_name.Goals as goal

pub returns-in-Lynx : goal.returns-in-Lynx
returns-in-Lynx c = search rules

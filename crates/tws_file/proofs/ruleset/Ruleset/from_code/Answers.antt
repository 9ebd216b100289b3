use Rattle.std.proofs.Common.{rules}
use Rattle.tws_file.proofs.ruleset.Ruleset.from_code.Goals as goal

pub returns-in-2-clause-known : goal.returns-in-2-clause-known
returns-in-2-clause-known c = search rules

use Rattle.std.proofs.Common.{rules}
use Rattle.tws_file.proofs.ruleset.RulesetDisplay.fmt.Goals as goal

pub returns-clause-writes : goal.returns-clause-writes
returns-clause-writes g c = search rules

use Rattle.std.proofs.Common.{rules}
use Rattle.tws_file.proofs.in_words.InWordsDisplay.fmt.Goals as goal

pub returns-in-BadRuleset-clause-writes : goal.returns-in-BadRuleset-clause-writes
returns-in-BadRuleset-clause-writes g c = search rules

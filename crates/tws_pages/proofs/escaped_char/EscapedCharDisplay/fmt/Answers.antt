use Rattle.std.proofs.Common.{rules}
use Rattle.tws_pages.proofs.escaped_char.EscapedCharDisplay.fmt.Goals as goal

pub returns-in-60-clause-writes : goal.returns-in-60-clause-writes
returns-in-60-clause-writes g c = search rules

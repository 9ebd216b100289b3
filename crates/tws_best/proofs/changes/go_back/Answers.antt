use Rattle.std.proofs.Common.{rules}
use Rattle.tws_best.proofs.changes.go_back.Goals as goal

pub returns-in-None : goal.returns-in-None
returns-in-None g c = search rules

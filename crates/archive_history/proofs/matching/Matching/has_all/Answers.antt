use Rattle.std.proofs.Common.{sym, ◌∙◌}
use Rattle.archive_history.proofs.Comparing.{all_came}
use Rattle.archive_history.proofs.matching.Matching.has_all.Goals as goal

pub returns-then-eq : goal.returns-then-eq
returns-then-eq c = all_came c.args.self.now.wanted.now c.args.wanted.now c.args.self.now.at (sym c.eq.ensures ∙ c.if-eq.true)

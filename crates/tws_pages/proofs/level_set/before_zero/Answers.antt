use Rattle.std.proofs.Common.{sym, ◌∙◌}
use Rattle.tws_pages.proofs.Named.{ended, unended}
use Rattle.tws_pages.proofs.level_set.before_zero.Goals as goal

pub returns-in-Some : goal.returns-in-Some
returns-in-Some c = ended c.args.bytes.now c.in-Some.end (sym c.first_zero.ensures ∙ c.in-Some.is)

pub returns-in-None : goal.returns-in-None
returns-in-None c = unended c.args.bytes.now (sym c.first_zero.ensures ∙ c.in-None.is)

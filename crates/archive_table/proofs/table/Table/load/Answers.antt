use Rattle.std.proofs.Common.{ap, ◌∙◌}
use Rattle.tws_best.specs.Best.{Collected}
use Rattle.archive_table.proofs.Serving.{none_fits}
use Rattle.archive_table.proofs.table.Table.load.Goals as goal

pub invariant_of-result : goal.invariant_of-result
invariant_of-result g c = none_fits _ (ap (λ (d : Collected). d.«ruleset») c.of.ensures ∙ c.in_ok-lynx.ensures.rules)
    (ap (λ (d : Collected). d.«ruleset») c.of-2.ensures ∙ c.in_ok-ms.ensures.rules) c.new.ensures

pub returns-clause-fits : goal.returns-clause-fits
returns-clause-fits g c = none_fits _ (ap (λ (d : Collected). d.«ruleset») c.of.ensures ∙ c.in_ok-lynx.ensures.rules)
    (ap (λ (d : Collected). d.«ruleset») c.of-2.ensures ∙ c.in_ok-ms.ensures.rules) c.new.ensures

use Rattle.std.proofs.Common.{ap, ◌∙◌, rules}
use Rattle.tws_best.specs.Best.{Collected}
use Rattle.archive_table.proofs.Serving.{none_fits}
use Rattle.archive_table.proofs.table.Table.new.Goals as goal

pub invariant_of-result : goal.invariant_of-result
invariant_of-result g c = none_fits _ (ap (λ (d : Collected). d.«ruleset») c.of.ensures ∙ c.new.ensures.rules)
    (ap (λ (d : Collected). d.«ruleset») c.of-2.ensures ∙ c.new-2.ensures.rules) c.new-3.ensures

pub returns-clause-fits : goal.returns-clause-fits
returns-clause-fits g c = none_fits _ (ap (λ (d : Collected). d.«ruleset») c.of.ensures ∙ c.new.ensures.rules)
    (ap (λ (d : Collected). d.«ruleset») c.of-2.ensures ∙ c.new-2.ensures.rules) c.new-3.ensures

pub returns-clause-server : goal.returns-clause-server
returns-clause-server g c = search rules

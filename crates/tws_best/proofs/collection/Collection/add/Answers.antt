use Rattle.std.proofs.Common.{List, sym, subst}
use Rattle.tws_file.specs.Record.{records_of}
use Rattle.tws_best.specs.Best.{solved_in}
use Rattle.tws_best.specs.Bodies.{BodyPair}
use Rattle.tws_best.specs.Steps.{LeadsBack}
use Rattle.tws_best.proofs.Taking.{solved_entries}
use Rattle.tws_best.proofs.Merges.{own_pairs, pairs_back, fits_by}
use Rattle.tws_best.proofs.collection.Collection.add.Goals as goal

pub add-requires : goal.add-requires
add-requires g c =
    let own = own_pairs c.args.self.now c.self.inside.ruleset c.self.inside.best c.self.view_is in
    let first = c.requires.leads.0 in
    record { leads = (first, subst (λ (ps : List BodyPair). LeadsBack first c.args.done.now.items ps) own c.requires.leads.1) }

pub returns-clause-leads : goal.returns-clause-leads
returns-clause-leads g c = λ first l.
    let own = own_pairs c.args.self.now c.self.inside.ruleset c.self.inside.best c.self.view_is in
    subst (λ (ps : List BodyPair). LeadsBack first c.add.new.done.items ps) (sym (pairs_back c.add.new.best))
    (c.add.ensures.leads first (subst (λ (ps : List BodyPair). LeadsBack first c.args.done.now.items ps) own l))

pub invariant_of-self : goal.invariant_of-self
invariant_of-self g c =
    let own = own_pairs c.args.self.now c.self.inside.ruleset c.self.inside.best c.self.view_is in
    let first = c.requires.leads.0 in
    let l = c.add.ensures.leads first (subst (λ (ps : List BodyPair). LeadsBack first c.args.done.now.items ps) own c.requires.leads.1) in
    let rs = records_of c.args.records.now in
    fits_by c.add.result first c.add.new.done.items c.self.inside.best c.add.new.best
    (solved_in rs) c.self.invariant (solved_entries rs c.requires.records) c.add.ensures.best c.add.ensures.none l

pub returns-clause-fits : goal.returns-clause-fits
returns-clause-fits g c = invariant_of-self g c

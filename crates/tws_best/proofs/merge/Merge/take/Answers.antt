use Rattle.std.proofs.Common.{List, sym, ap, ◌∙◌, subst, rules}
use Rattle.tws_best.specs.Merge.{merging_of}
use Rattle.tws_best.specs.Bodies.{BodyPair, keyed_bodies, pairs_of}
use Rattle.tws_best.specs.Steps.{Undoes, undone, LeadsBack}
use Rattle.tws_best.proofs.Results.{on_err}
use Rattle.tws_best.proofs.Merges.{pairs_back, same_pairs, same_collected, undoes_one}
use Rattle.tws_best.proofs.merge.Merge.take.Goals as goal

pub invariant_of-self : goal.invariant_of-self
invariant_of-self g c =
    let m = c.self.inside in
    let first = undone m.done.items (pairs_of m.collection.entries) in
    let now = pairs_of c.add.new.self.entries in
    let lead = c.add.ensures.leads first c.self.invariant in
    subst (λ (ps : List BodyPair). LeadsBack ps c.add.new.done.items now) (sym (undoes_one first c.add.new.done.items now lead.undo)) lead

pub returns-clause-first : goal.returns-clause-first
returns-clause-first g c =
    let m = c.self.inside in
    let first = undone m.done.items (pairs_of m.collection.entries) in
    let now = pairs_of c.add.new.self.entries in
    let lead = c.add.ensures.leads first c.self.invariant in
    same_collected _ c.args.self.now.first (c.add.ensures.rules ∙ ap (λ v. v.first.ruleset) c.self.view_is)
    (ap keyed_bodies (undoes_one first c.add.new.done.items now lead.undo) ∙ ap (λ v. v.first.entries) c.self.view_is)

pub returns-clause-err : goal.returns-clause-err
returns-clause-err g c =
    let m = c.self.inside in
    let first = undone m.done.items (pairs_of m.collection.entries) in
    let now = pairs_of c.add.new.self.entries in
    let lead = c.add.ensures.leads first c.self.invariant in
    on_err c.add.result
    (λ none. same_pairs c.add.new.self (merging_of m).first c.add.ensures.rules (subst (λ ds. Undoes first ds now) none lead.undo ∙ sym (pairs_back first)) ∙ ap (λ v. v.first) c.self.view_is)
    c.add.ensures.none

pub returns-clause-best : goal.returns-clause-best
returns-clause-best g c = search rules

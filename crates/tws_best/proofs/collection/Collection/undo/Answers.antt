use Rattle.std.proofs.Common.{List, sym, ◌∙◌, subst}
use Rattle.tws_best.specs.Best.{AreCollected}
use Rattle.tws_best.specs.Bodies.{BodyPair, keyed_bodies}
use Rattle.tws_best.specs.Steps.{Undoes}
use Rattle.tws_best.proofs.Merges.{own_pairs, pairs_back}
use Rattle.tws_best.proofs.collection.Collection.undo.Goals as goal

pub undo-requires : goal.undo-requires
undo-requires g c =
    let own = own_pairs c.args.self.now c.self.inside.ruleset c.self.inside.best c.self.view_is in
    (c.requires.0, subst (λ (ps : List BodyPair). Undoes c.requires.0 c.args.done.items ps) own c.requires.1.undo)

pub invariant_of-self : goal.invariant_of-self
invariant_of-self g c =
    let own = own_pairs c.args.self.now c.self.inside.ruleset c.self.inside.best c.self.view_is in
    let first = c.requires.0 in
    let is = c.undo.ensures first (subst (λ (ps : List BodyPair). Undoes first c.args.done.items ps) own c.requires.1.undo) in
    subst (λ (ps : List BodyPair). AreCollected (keyed_bodies ps)) (sym is) c.requires.1.collected

pub returns-clause-first : goal.returns-clause-first
returns-clause-first g c = λ first l.
    let own = own_pairs c.args.self.now c.self.inside.ruleset c.self.inside.best c.self.view_is in
    pairs_back c.undo.new.best ∙ c.undo.ensures first (subst (λ (ps : List BodyPair). Undoes first c.args.done.items ps) own l.undo)

use Rattle.std.proofs.Common.{List, ℕ, ◌++◌, length, arith, ap, sym, ◌∙◌}
use Rattle.std.specs.Map.{values_of}
use Rattle.tws_best.specs.Best.{collection_header, collection_text}
use Rattle.tws_best.specs.Bodies.{BodyPair, keyed_bodies}
use Rattle.tws_best.proofs.BodyTexts.{texts, entries_text}
use Rattle.tws_best.proofs.Freezing.{is_frozen, has_text}
use Rattle.tws_best.proofs.collection.Collection.snapshot.Goals as goal

pub of-requires : goal.of-requires
of-requires g c =
    let text = ap (λ (x : List ℕ). collection_header c.self.inside.ruleset ++ x) (sym (entries_text c.self.inside.best)) ∙ ap collection_text c.self.view_is in
    omega (arith, c.requires, ap length text, ap (λ (ps : List BodyPair). length (texts (values_of ps))) c.map.ensures)

pub returns-clause-value : goal.returns-clause-value
returns-clause-value g c =
    is_frozen c.args.self.now c.self.inside.ruleset c.map.result.now.entries (ap (λ v. v.ruleset) c.self.view_is)
    (ap keyed_bodies c.map.ensures ∙ ap (λ v. v.entries) c.self.view_is) c.of.result c.of.ensures.rules c.of.ensures.bodies

pub returns-clause-text : goal.returns-clause-text
returns-clause-text g c =
    has_text c.args.self.now c.self.inside.ruleset c.map.result.now.entries (ap (λ v. v.ruleset) c.self.view_is)
    (ap keyed_bodies c.map.ensures ∙ ap (λ v. v.entries) c.self.view_is) c.of.result c.of.ensures.rules c.of.ensures.bodies

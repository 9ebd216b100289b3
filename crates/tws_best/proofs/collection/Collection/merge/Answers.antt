use Rattle.std.proofs.Common.{List, ◌++◌, ap, sym, ◌∙◌, subst}
use Rattle.byte_output.proofs.Sending.{at_err}
use Rattle.std.specs.List.{Contains}
use Rattle.tws_file.specs.Text.{Record}
use Rattle.tws_best.specs.Best.{IsRising, IsBestOf, solved_in}
use Rattle.tws_best.specs.Bodies.{pairs_of}
use Rattle.tws_best.specs.Steps.{Undoes}
use Rattle.tws_best.proofs.OtherRuleset.{still_best, own_best_of, same_rules}
use Rattle.tws_best.proofs.Merges.{begins_with, same_pairs, changed_since}
use Rattle.tws_best.proofs.collection.Collection.merge.Goals as goal

pub returns-then-ne-clause-best : goal.returns-then-ne-clause-best
returns-then-ne-clause-best g c =
    still_best c.args.self.now.entries c.self.inside.ruleset c.file.inside.ruleset c.args.file.now.ruleset c.args.self.now.ruleset c.args.file.now.records
    (ap (λ v. v.ruleset) c.self.view_is) (ap (λ v. v.ruleset) c.file.view_is) (sym c.ne.ensures ∙ c.if-ne.true)
    (subst IsRising (ap (λ v. v.entries) c.self.view_is) c.self.invariant.rising)

pub add-requires-clause-leads : goal.add-requires-clause-leads
add-requires-clause-leads g c =
    (pairs_of c.args.self.now.entries, begins_with c.args.self.now c.self.inside.ruleset c.self.inside.best c.new-done.result.items c.self.view_is c.self.invariant c.new-done.ensures.items)

pub returns-in_err-add-clause-err : goal.returns-in_err-add-clause-err
returns-in_err-add-clause-err g c =
    let first = pairs_of c.args.self.now.entries in
    let lead = c.in_err-add.ensures.leads first
    (begins_with c.args.self.now c.self.inside.ruleset c.self.inside.best c.new-done.result.items c.self.view_is c.self.invariant c.new-done.ensures.items) in
    at_err c.from_residual.result
    (same_pairs c.add.new.self c.args.self.now c.in_err-add.ensures.rules
    (subst (λ ds. Undoes first ds (pairs_of c.add.new.self.entries)) c.in_err-add.ensures.none lead.undo))

pub returns-clause-best : goal.returns-clause-best
returns-clause-best g c =
    own_best_of c.args.self.now.entries c.add.new.self.entries c.self.inside.ruleset c.file.inside.ruleset c.args.file.now.ruleset c.args.self.now.ruleset _
    (ap (λ v. v.ruleset) c.self.view_is) (ap (λ v. v.ruleset) c.file.view_is) (sym c.ne.ensures ∙ c.if-ne.false)
    (subst (λ (rs : List Record). IsBestOf (Contains (c.args.self.now.entries ++ solved_in rs)) c.add.new.self.entries)
    (c.as_slice.ensures ∙ ap (λ v. v.records) c.file.view_is) c.in_ok-add.ensures.best)

pub returns-clause-changed : goal.returns-clause-changed
returns-clause-changed g c =
    let first = pairs_of c.args.self.now.entries in
    let lead = c.in_ok-add.ensures.leads first
    (begins_with c.args.self.now c.self.inside.ruleset c.self.inside.best c.new-done.result.items c.self.view_is c.self.invariant c.new-done.ensures.items) in
    changed_since c.is_empty.result _ c.add.new.done.items c.add.new.self c.args.self.now c.is_empty.ensures (sym c.add.new.done.ok.0) c.in_ok-add.ensures.rules lead

pub returns-clause-other : goal.returns-clause-other
returns-clause-other g c = λ other.
    absurd (other (same_rules c.self.inside.ruleset c.file.inside.ruleset c.args.file.now.ruleset c.args.self.now.ruleset
    (ap (λ v. v.ruleset) c.self.view_is) (ap (λ v. v.ruleset) c.file.view_is) (sym c.ne.ensures ∙ c.if-ne.false)))

use Rattle.std.proofs.Common.{ap, sym, ◌∙◌, subst}
use Rattle.tws_best.specs.Steps.{Undoes, LeadsBack}
use Rattle.tws_best.proofs.Merges.{gone_back}
use Rattle.tws_best.proofs.changes.add.Goals as goal

pub undo-requires : goal.undo-requires
undo-requires g c =
    let first = c.requires.leads.0 in
    (first, subst (λ v. Undoes first v.items c.take_records.new.best) (sym c.replace-changes.ensures.value) (c.in-Err.ensures.undo first c.requires.leads.1.undo))

pub returns-in-Err-clause-leads : goal.returns-in-Err-clause-leads
returns-in-Err-clause-leads g c = λ first l.
    let undoes = subst (λ v. Undoes first v.items c.take_records.new.best) (sym c.replace-changes.ensures.value) (c.in-Err.ensures.undo first l.undo) in
    let none = ap (λ v. v.items) c.replace-changes.ensures.after ∙ c.new.ensures.items in
    subst (λ ds. LeadsBack first ds c.undo.new.best) (sym none)
    (gone_back first c.args.done.now.items c.args.best.now c.undo.new.best l (c.undo.ensures first undoes))

use Rattle.std.proofs.Common.{List, ℕ, Some, ◌∙◌, subst}
use Rattle.folders.proofs.Steps.{stays_then}
use Rattle.archive_history.proofs.history.has_copy.Goals as goal

pub returns-in-Some-clause-known : goal.returns-in-Some-clause-known
returns-in-Some-clause-known g c = λ modelled is.
    let text = Some (g.C.Contents.text c.args.text.now) in
    let name = c.in-Some.ensures.name in
    let found = (c.marked_copy.ensures.same modelled c.as_str.result.now).possible.now text (c.has_text.ensures.same modelled is) in
    (name.0, name.1, subst (λ (copy : List ℕ). g.F.Folder.model.reads c.args.folder.now copy text) (c.as_str.ensures.value ∙ name.2) found)

pub returns-in-Some-clause-same : goal.returns-in-Some-clause-same
returns-in-Some-clause-same g c = λ modelled other. stays_then (c.marked_copy.ensures.same modelled other) (c.has_text.ensures.all modelled other)

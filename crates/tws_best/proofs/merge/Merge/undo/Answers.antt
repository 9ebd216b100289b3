use Rattle.std.proofs.Common.{sym, ap, ◌∙◌}
use Rattle.tws_best.specs.Merge.{merging_of}
use Rattle.tws_best.specs.Bodies.{pairs_of}
use Rattle.tws_best.specs.Steps.{undone}
use Rattle.tws_best.proofs.Merges.{pairs_back, same_pairs}
use Rattle.tws_best.proofs.merge.Merge.undo.Goals as goal

pub returns : goal.returns
returns g c =
    let m = c.self.inside in
    let first = undone m.done.items (pairs_of m.collection.entries) in
    same_pairs c.undo.new.self (merging_of m).first c.undo.ensures.rules (c.undo.ensures.first first c.self.invariant ∙ sym (pairs_back first)) ∙ ap (λ v. v.first) c.self.view_is

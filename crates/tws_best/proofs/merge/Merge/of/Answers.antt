use Rattle.std.proofs.Common.{sym, ap, ◌∙◌, subst, refl, rules}
use Rattle.tws_best.specs.Best.{AreCollected}
use Rattle.tws_best.specs.Bodies.{keyed_bodies, pairs_of}
use Rattle.tws_best.specs.Steps.{undone, LeadsBack}
use Rattle.tws_best.proofs.Merges.{keyed_back, same_collected, begins}
use Rattle.tws_best.proofs.merge.Merge.of.Goals as goal

pub invariant_of-result : goal.invariant_of-result
invariant_of-result g c =
    let es = c.args.collection.entries in
    subst (λ ds. LeadsBack (undone ds (pairs_of es)) ds (pairs_of es)) (sym c.no_changes-done.ensures.none)
    (begins (pairs_of es) (subst AreCollected (sym (keyed_back es)) c.no_changes-done.ensures.fits))

pub returns-clause-first : goal.returns-clause-first
returns-clause-first g c =
    let es = c.args.collection.entries in
    same_collected _ c.args.collection refl (ap (λ ds. keyed_bodies (undone ds (pairs_of es))) c.no_changes-done.ensures.none ∙ keyed_back es)

pub returns-clause-now : goal.returns-clause-now
returns-clause-now g c = search rules

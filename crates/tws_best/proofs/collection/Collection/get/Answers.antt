use Rattle.std.proofs.Common.{List, sym, ap, subst, rules}
use Rattle.std.specs.List.{Contains}
use Rattle.tws_best.specs.Best.{KeyedBody, HasBody}
use Rattle.tws_best.proofs.Found.{found, not_found}
use Rattle.tws_best.proofs.collection.Collection.get.Goals as goal

pub returns-in-Some-clause-found : goal.returns-in-Some-clause-found
returns-in-Some-clause-found g c =
    let has = found c.args.key c.in-Some.body.now c.self.inside.best (sym c.in-Some.ensures.value) in
    let here = subst (λ (es : List KeyedBody). HasBody es c.args.key c.in-Some.body.now) (ap (λ v. v.entries) c.self.view_is) has in
    rw c.as_slice.ensures.bytes here

pub returns-in-None-clause-absent : goal.returns-in-None-clause-absent
returns-in-None-clause-absent g c = λ h.
    not_found c.args.key c.self.inside.best (sym c.in-None.ensures.value) h.entry
    (subst (λ (es : List KeyedBody). Contains es h.entry) (ap (λ v. v.entries) (sym c.self.view_is)) h.present) h.key_is

pub returns-in-Some-clause-absent : goal.returns-in-Some-clause-absent
returns-in-Some-clause-absent g c = search rules

use Rattle.std.proofs.Common.{List, ◌≡◌, ◌↔◌, sym, ◌∙◌, subst, refl}
use Rattle.tws_best.specs.Merge.{Merging, merging_of}
use Rattle.tws_best.specs.Bodies.{BodyPair, pairs_of}
use Rattle.tws_best.specs.Steps.{undone, LeadsBack}
use Rattle.tws_best.proofs.Merges.{pairs_back, none_since}
use Rattle.tws_best.proofs.merge.Merge.changes.Goals as goal

pub returns : goal.returns
returns g c =
    let m = c.self.inside in
    let now = pairs_of m.collection.entries in
    let lead = subst (λ (first : List BodyPair). LeadsBack first m.done.items now) (sym (pairs_back (undone m.done.items now))) c.self.invariant in
    subst (λ (v : Merging). (c.len.result ≡ 0) ↔ (v.now ≡ v.first)) c.self.view_is
    (none_since c.len.result m.done.items m.collection (merging_of m).first (sym m.done.ok.0 ∙ sym c.len.ensures) refl lead)

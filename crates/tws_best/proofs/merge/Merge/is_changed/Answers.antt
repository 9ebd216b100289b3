use Rattle.std.proofs.Common.{List, ◌≡◌, ◌≢◌, MatchBool, not, sym, subst, refl}
use Rattle.tws_best.specs.Merge.{Merging, merging_of}
use Rattle.tws_best.specs.Bodies.{BodyPair, pairs_of}
use Rattle.tws_best.specs.Steps.{undone, LeadsBack}
use Rattle.tws_best.proofs.Merges.{pairs_back, changed_since}
use Rattle.tws_best.proofs.merge.Merge.is_changed.Goals as goal

pub returns : goal.returns
returns g c =
    let m = c.self.inside in
    let now = pairs_of m.collection.entries in
    let lead = subst (λ (first : List BodyPair). LeadsBack first m.done.items now) (sym (pairs_back (undone m.done.items now))) c.self.invariant in
    subst (λ (v : Merging). MatchBool (not c.is_empty.result) (v.now ≢ v.first) (v.now ≡ v.first)) c.self.view_is
    (changed_since c.is_empty.result _ m.done.items m.collection (merging_of m).first c.is_empty.ensures (sym m.done.ok.0) refl lead)

use Rattle.std.proofs.Common.{◌≡◌, ◌+◌, ap, sym, subst, [], ◌∷◌, length, inl, refl, ℕ, Ok, arith, length-append}
use Rattle.byte_output.proofs.Lists.{at_some, at_none}
use Rattle.tws_best.specs.Best.{KeyedBody, keyed_body}
use Rattle.tws_best.specs.Steps.{Takes}
use Rattle.tws_best.proofs.ChangeLists.{one_more}
use Rattle.tws_best.proofs.Taking.{entry_same, enters_by, better_by, held_by}
use Rattle.tws_best.proofs.changes.take.Goals as goal

pub returns-in-Some-clause-ok : goal.returns-in-Some-clause-ok
returns-in-Some-clause-ok g c =
    let key = c.solution.inside.key in
    let best = c.args.best.now in
    let body = (keyed_body c.args.solution.now).body in
    let same = entry_same c.args.solution.now key body (ap (λ s. s.key) c.solution.view_is) refl in
    let inserted = at_some _ _ _ c.in-Some.is c.in_ok-old.ensures.enters in
    let had = at_some _ _ _ c.in-Some.is c.in_ok-old.ensures.had in
    let better = at_some _ _ _ c.in-Some.is c.in_ok-old.ensures.better in
    let count : length c.push_reserved.new.self.items ≡ length c.args.done.now.items + 1 = omega (arith, ap length c.push_reserved.ensures.items, length-append c.reserve.new.self.items ((key, c.in-Some.old) ∷ []), ap length c.reserve.ensures.items) in
    subst (λ (x : KeyedBody). Takes x best c.offer.new.self (length c.args.done.now.items) (length c.push_reserved.new.self.items)) same
    (enters_by {E = ℕ} (Ok tt) key body best c.offer.new.self (length c.args.done.now.items) (length c.push_reserved.new.self.items)
    (better_by best key body c.in-Some.old had better) inserted count c.offer.ensures.was_ordered)

pub returns-in-Some-clause-undo : goal.returns-in-Some-clause-undo
returns-in-Some-clause-undo g c = λ first u.
    let key = c.solution.inside.key in
    let body = (keyed_body c.args.solution.now).body in
    let inserted = at_some _ _ _ c.in-Some.is c.in_ok-old.ensures.enters in
    let had = at_some _ _ _ c.in-Some.is c.in_ok-old.ensures.had in
    rw (c.push_reserved.ensures.items, c.reserve.ensures.items, inserted)
    (one_more first c.args.done.now.items c.args.best.now key body c.in-Some.old c.offer.ensures.was_ordered (sym had) u)

pub returns-in_default-clause-ok : goal.returns-in_default-clause-ok
returns-in_default-clause-ok g c =
    let key = c.solution.inside.key in
    let best = c.args.best.now in
    let body = (keyed_body c.args.solution.now).body in
    let same = entry_same c.args.solution.now key body (ap (λ s. s.key) c.solution.view_is) refl in
    let stays = at_none _ c.in_default.is c.in_ok-old.ensures.stays in
    let held = at_none _ c.in_default.is c.in_ok-old.ensures.held in
    subst (λ (x : KeyedBody). Takes x best c.offer.new.self (length c.args.done.now.items) (length c.reserve.new.self.items)) same
    (inl (record { held = held_by best key body _ refl held; same = stays; count = ap length c.reserve.ensures.items }))

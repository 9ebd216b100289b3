use Rattle.std.proofs.Common.{subst}
use Rattle.tws_best.specs.Steps.{Undoes}
use Rattle.tws_best.proofs.ChangeLists.{last_back}
use Rattle.tws_best.proofs.changes.undo.Goals as goal

pub go_back-requires : goal.go_back-requires
go_back-requires g c =
    let first = c.requires.0 in
    let undoes = subst (λ ds. Undoes first ds c.loop-key.best) c.in-Some.ensures.items (c.loop-key.invariant first c.requires.1) in
    (last_back first c.pop.new.self.items c.loop-key.best c.in-Some.key c.in-Some.old undoes).0

pub loop-key-preserved : goal.loop-key-preserved
loop-key-preserved g c = λ first u.
    let undoes = subst (λ ds. Undoes first ds c.loop-key.best) c.in-Some.ensures.items (c.loop-key.invariant first u) in
    rw c.go_back.ensures (last_back first c.pop.new.self.items c.loop-key.best c.in-Some.key c.in-Some.old undoes).1

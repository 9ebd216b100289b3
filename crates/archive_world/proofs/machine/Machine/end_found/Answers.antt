use Rattle.std.specs.Prelude.{ℕ, List}
use Rattle.std.proofs.Common.{sym, ap, ◌∙◌}
use Rattle.archive_model.specs.World.{Datagram}
use Rattle.archive_world.specs.Inside.{world_of}
use Rattle.archive_world.proofs.Unknowns.{found-ends}
use Rattle.archive_world.proofs.machine.Machine.end_found.Goals as goal

pub returns : goal.returns
returns g c =
    let received : (bytes : List ℕ) → Datagram = λ bytes. record { source = c.d.inside.from; target = c.d.inside.to; bytes = bytes } in
    let step = c.on_datagram-step.ensures in
    found-ends c.args.d.now (received c.as_slice.result.now) (sym c.d.view_is ∙ ap received (sym c.as_slice.ensures.list)) c.args.self.now
    (world_of c.self.inside) (sym c.self.view_is) c.on_datagram-step.new.self c.on_datagram-step.result step.server step.step step.event
    step.merges step.request c.requires.home _ _ step.keeps
    (λ other same. ap g.K.Keeper.calls (step.untouched other same)) c.found_step.result c.found_step.new.self c.found_step.ensures

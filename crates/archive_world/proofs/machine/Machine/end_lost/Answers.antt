use Rattle.std.specs.Prelude.{ℕ, List}
use Rattle.std.proofs.Common.{sym, ap, ◌∙◌}
use Rattle.archive_model.specs.World.{Datagram}
use Rattle.archive_world.specs.Inside.{world_of}
use Rattle.archive_world.proofs.Unknowns.{lost-ends}
use Rattle.archive_world.proofs.machine.Machine.end_lost.Goals as goal

pub returns : goal.returns
returns g c = λ log.
    let received : (bytes : List ℕ) → Datagram = λ bytes. record { source = c.d.inside.from; target = c.d.inside.to; bytes = bytes } in
    let step = c.on_datagram-step.ensures in
    lost-ends c.args.d.now (received c.as_slice.result.now) (sym c.d.view_is ∙ ap received (sym c.as_slice.ensures.list)) c.args.self.now
    (world_of c.self.inside) (sym c.self.view_is) c.on_datagram-step.new.self c.on_datagram-step.result step.server step.step step.event
    step.merges step.request c.requires.home step.keeps log
    c.lost_step.result c.lost_step.new.self c.lost_step.ensures

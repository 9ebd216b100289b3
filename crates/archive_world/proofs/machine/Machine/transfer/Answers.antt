use Rattle.std.specs.Prelude.{ℕ, List}
use Rattle.std.proofs.Common.{refl, sym, ap, ◌∙◌}
use Rattle.archive_table.specs.Table.{grant_of}
use Rattle.archive_table.specs.Events.{made}
use Rattle.archive_model.specs.World.{Datagram, World, after_transfer}
use Rattle.archive_world.specs.Inside.{world_of}
use Rattle.archive_world.proofs.Steps.{at-port}
use Rattle.archive_world.proofs.machine.Machine.transfer.Goals as goal

pub returns : goal.returns
returns g c =
    let received : (bytes : List ℕ) → Datagram = λ bytes. record { source = c.d.inside.from; target = c.d.inside.to; bytes = bytes } in
    let seen : World = world_of c.self.inside in
    let then : World = after_transfer (record { server = c.on_datagram-step.new.self; step = made c.on_datagram-step.result }) seen in (
      then,
      at-port c.args.d.now (received c.as_slice.result.now) _ _ c.args.self.now seen then
          (sym c.d.view_is ∙ ap received (sym c.as_slice.ensures.list)) (sym c.self.view_is) (grant_of c.on_datagram-step.result.out)
          c.on_datagram-step.new.self (made c.on_datagram-step.result) c.on_datagram-step.ensures.server c.on_datagram-step.ensures.step
          c.on_datagram-step.ensures.merges c.on_datagram-step.ensures.keeps refl,
      c.add_step.ensures,
    )

use Rattle.std.proofs.Common.{refl, ap}
use Rattle.archive_model.specs.World.{Datagram}
use Rattle.archive_world.specs.Inside.{world_of}
use Rattle.archive_world.proofs.Steps.{on-ok}
use Rattle.archive_world.proofs.Clients.{received, received_none}
use Rattle.archive_world.proofs.machine.Machine.client_receive.Goals as goal

pub returns-in_default : goal.returns-in_default
returns-in_default g c =
    received_none c.args.d.now c.d.inside.to c.args.self.now (world_of c.self.inside) (ap (λ (d : Datagram). d.target) c.d.view_is)
    c.self.view_is c.as_slice.result.now c.as_slice.ensures.value (c.in_default.ensures.none refl)

pub returns : goal.returns
returns g c =
    on-ok c.answer.result
    (λ is. received c.args.d.now c.d.inside.to c.args.self.now (world_of c.self.inside) c.answer.new.self
    (ap (λ (d : Datagram). d.target) c.d.view_is) c.self.view_is c.self.inside.clients.items c.receive_at.new.clients.items
    c.in_ok-answered.answered.sent c.in_ok-answered.answered.file c.in_ok-answered.answered.out refl c.in_ok-answered.ensures is)
    c.answer.ensures

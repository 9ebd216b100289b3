use Rattle.std.specs.Prelude.{ℕ, List}
use Rattle.std.proofs.Common.{ap, ◌∙◌}
use Rattle.archive_model.specs.World.{Datagram}
use Rattle.archive_world.specs.Inside.{running_of, verdict_in}
use Rattle.archive_world.proofs.Clients.{receives_at, all_of_ok}
use Rattle.archive_world.proofs.seats.receive_at.Goals as goal

pub returns : goal.returns
returns g c =
    let received_as : (bytes : List ℕ) → Datagram = λ bytes. record { source = c.d.inside.from; target = c.d.inside.to; bytes = bytes } in
    all_of_ok c.answered.result _ _ _ _
    (λ answered sent file out. receives_at (verdict_in c.receive-out.new.self) (received_as c.as_slice.result.now) c.args.d.now
    (ap received_as c.as_slice.ensures.list ∙ c.d.view_is) c.args.clients.now.items c.args.i c.index_mut-seat.result.now
    c.seat.inside.client (running_of c.seat.inside.running) (running_of c.receive-out.new.self) c.state-was.result answered.sent
    answered.file answered.out c.receive-out.result c.requires.first (c.seat.view_is ∙ c.index_mut-seat.ensures.value)
    c.receive-out.ensures.client c.state-was.ensures.is sent file out c.receive-out.ensures.sent)
    c.answered.ensures.sent c.answered.ensures.file c.answered.ensures.out

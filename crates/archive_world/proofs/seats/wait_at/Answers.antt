use Rattle.std.proofs.Common.{◌∙◌}
use Rattle.archive_client.specs.Client.{client_timeout}
use Rattle.archive_world.specs.Inside.{running_of}
use Rattle.archive_world.proofs.Clients.{answers_at, all_of_ok}
use Rattle.archive_world.proofs.seats.wait_at.Goals as goal

pub returns : goal.returns
returns g c =
    all_of_ok c.answered.result _ _ _ _
    (λ answered sent file out. answers_at client_timeout c.args.e c.args.clients.now.items c.args.i c.index_mut-seat.result.now
    c.seat.inside.client (running_of c.seat.inside.running) (running_of c.wait-out.new.self) c.state-was.result answered.sent
    answered.file answered.out c.requires.first (c.seat.view_is ∙ c.index_mut-seat.ensures.value) c.wait-out.ensures.client
    c.state-was.ensures.is sent file (out ∙ c.wait-out.ensures.sent))
    c.answered.ensures.sent c.answered.ensures.file c.answered.ensures.out

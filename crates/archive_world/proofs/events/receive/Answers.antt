use Rattle.std.proofs.Common.{ap, ◌∙◌}
use Rattle.tftp_packet.specs.declared.endpoint.Endpoint.{Endpoint}
use Rattle.archive_world.proofs.Delivering.{receive-comes}
use Rattle.archive_world.proofs.events.receive.Goals as goal

pub returns-in-Ok : goal.returns-in-Ok
returns-in-Ok g c = λ reported index spare there. receive-comes c.args.machine.now c.client_receive.new.self c.args.d.now index spare there
    (λ e. c.requires.away (e ∙ ap (λ (x : Endpoint). x.host) c.requires.home)) reported c.in-Ok.ensures

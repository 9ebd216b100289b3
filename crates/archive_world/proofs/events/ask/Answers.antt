use Rattle.std.proofs.Common.{sym, ap, ◌∙◌}
use Rattle.tftp_packet.specs.declared.endpoint.Endpoint.{Endpoint}
use Rattle.archive_world.proofs.Delivering.{ask-comes, ask-fails}
use Rattle.archive_world.proofs.events.ask.Goals as goal

pub returns-in-Ok : goal.returns-in-Ok
returns-in-Ok g c = λ reported index there.
    ask-comes c.args.machine.now c.request.new.machine c.args.d.now index c.args.spare there
    (c.requires.ours ∙ sym (ap (λ (e : Endpoint). e.host) c.requires.home))
    (c.requires.at ∙ sym c.requires.request) c.request.result _ reported c.in-Ok.ensures.made c.in-Ok.ensures.free c.in-Ok.ensures.step
    c.in-Ok.is c.request.ensures.own

pub returns-in-Err : goal.returns-in-Err
returns-in-Err g c = λ reported index there.
    ask-fails c.args.machine.now c.request.new.machine c.args.d.now index c.args.spare there
    (c.requires.ours ∙ sym (ap (λ (e : Endpoint). e.host) c.requires.home))
    (c.requires.at ∙ sym c.requires.request) c.request.result c.in-Err.fault reported c.in-Err.is c.request.ensures.bad
    c.request.ensures.reused c.request.ensures.used c.request.ensures.keeps c.request.ensures.loads c.request.ensures.opens

use Rattle.std.proofs.Common.{sym, ap, ◌∙◌}
use Rattle.tftp_packet.specs.declared.endpoint.Endpoint.{Endpoint}
use Rattle.archive_world.proofs.Delivering.{transfer-comes, transfer-fails}
use Rattle.archive_world.proofs.events.transfer.Goals as goal

pub returns-in-Ok : goal.returns-in-Ok
returns-in-Ok g c = λ index spare there.
    let reported = c.in-Ok.ensures in
    transfer-comes c.args.machine.now c.transfer.new.self c.args.d.now index spare there (c.requires.ours ∙ sym (ap (λ (e : Endpoint). e.host) c.requires.home))
    (λ e. c.requires.other (e ∙ c.requires.request)) _ _ reported.0 reported.1 reported.2

pub returns-in-Err : goal.returns-in-Err
returns-in-Err g c = λ index spare there.
    let reported = c.in-Err.ensures in
    transfer-fails c.args.machine.now c.transfer.new.self c.args.d.now index spare there (c.requires.ours ∙ sym (ap (λ (e : Endpoint). e.host) c.requires.home))
    (λ e. c.requires.other (e ∙ c.requires.request)) _ _ reported.0 reported.1

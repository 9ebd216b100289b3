use Rattle.std.proofs.Common.{sym, ap, ◌∙◌}
use Rattle.tftp_packet.specs.declared.endpoint.Endpoint.{Endpoint}
use Rattle.archive_world.proofs.Unknowns.{ends-comes, ends-unloaded, ends-fails}
use Rattle.archive_world.proofs.events.end_there.Goals as goal

pub returns-in-Err : goal.returns-in-Err
returns-in-Err g c = λ index there.
    ends-fails c.args.machine.now c.end.new.machine c.args.d.now index there
    (c.requires.ours ∙ sym (ap (λ (e : Endpoint). e.host) c.requires.home)) (λ e. c.requires.other (e ∙ c.requires.request)) c.args.found
    _ _ c.in-Err.fault c.end.new.machine c.in-Err.ensures

pub returns-in-Ok-restart : goal.returns-in-Ok-restart
returns-in-Ok-restart g c = λ index there.
    let loaded = c.in-Ok-restart.ensures in
    ends-comes c.args.machine.now c.restart.new.machine c.args.d.now index there
    (c.requires.ours ∙ sym (ap (λ (e : Endpoint). e.host) c.requires.home)) (λ e. c.requires.other (e ∙ c.requires.request)) c.args.found
    _ _ c.end.new.machine c.in-Ok.ensures (g.K.Keeper.calls c.restart.new.keeper) c.restart.ensures.calls loaded.home loaded.request loaded.made

pub returns-in-Err-restart : goal.returns-in-Err-restart
returns-in-Err-restart g c = λ index there.
    ends-unloaded c.args.machine.now c.restart.new.machine c.args.d.now index there
    (c.requires.ours ∙ sym (ap (λ (e : Endpoint). e.host) c.requires.home)) (λ e. c.requires.other (e ∙ c.requires.request)) c.args.found
    _ _ c.end.new.machine c.in-Ok.ensures (g.K.Keeper.calls c.restart.new.keeper) c.restart.ensures.calls

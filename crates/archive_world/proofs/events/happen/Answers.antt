use Rattle.std.specs.Prelude.{Ok}
use Rattle.std.proofs.Common.{ap}
use Rattle.archive_world.specs.View.{event_of, operation_of}
use Rattle.archive_model.specs.World.{begin, client_times_out, server_times_out, stray, restart}
use Rattle.archive_world.proofs.Exiting.{begin-comes, wait-comes, time-comes, stray-comes, restart-comes, comes-at}
use Rattle.archive_world.proofs.events.happen.Goals as goal

pub returns-in-Begin : goal.returns-in-Begin
returns-in-Begin g c =
    let reported = g.K.Keeper.calls c.args.keeper.now in
    let w = c.args.machine.now in
    let client = c.in-Begin.op.client in
    let operation = operation_of c.in-Begin.op.kind in
    comes-at (event_of c.args.event.now) (begin client operation) c.begin.result reported reported w c.begin.new.machine (ap event_of c.in-Begin.is)
    (begin-comes w c.begin.new.machine client operation c.begin.result reported c.begin.ensures.made c.begin.ensures.may c.begin.ensures.own
    c.begin.ensures.bad c.begin.ensures.reused c.begin.ensures.used c.begin.ensures.keeps c.begin.ensures.loads)

pub returns-in-ClientTimeout : goal.returns-in-ClientTimeout
returns-in-ClientTimeout g c =
    let reported = g.K.Keeper.calls c.args.keeper.now in
    let w = c.args.machine.now in
    let v = c.client_timeout.new.machine in
    let client = c.in-ClientTimeout.client in
    comes-at (event_of c.args.event.now) (client_times_out client) c.client_timeout.result reported reported w v (ap event_of c.in-ClientTimeout.is)
    (wait-comes w v client c.client_timeout.result reported c.client_timeout.ensures.made c.client_timeout.ensures.may
    c.client_timeout.ensures.bad c.client_timeout.ensures.own c.client_timeout.ensures.keeps c.client_timeout.ensures.loads)

pub returns-in-ServerTimeout : goal.returns-in-ServerTimeout
returns-in-ServerTimeout g c =
    let reported = g.K.Keeper.calls c.args.keeper.now in
    let w = c.args.machine.now in
    let v = c.server_timeout.new.machine in
    let port = c.in-ServerTimeout.port in
    comes-at (event_of c.args.event.now) (server_times_out port) c.server_timeout.result reported reported w v (ap event_of c.in-ServerTimeout.is)
    (time-comes w v port c.server_timeout.result reported c.server_timeout.ensures.made c.server_timeout.ensures.may)

pub returns-in-Stray : goal.returns-in-Stray
returns-in-Stray g c =
    let reported = g.K.Keeper.calls c.args.keeper.now in
    let w = c.args.machine.now in
    let v = c.stray.new.machine in
    comes-at (event_of c.args.event.now) (stray c.in-Stray.d) c.stray.result reported reported w v (ap event_of c.in-Stray.is)
    (stray-comes w v c.in-Stray.d c.stray.result reported c.stray.ensures.made c.stray.ensures.may c.stray.ensures.bad c.stray.ensures.own
    c.stray.ensures.keeps c.stray.ensures.loads)

pub returns-in-Ok : goal.returns-in-Ok
returns-in-Ok g c =
    let reported = g.K.Keeper.calls c.args.keeper.now in
    let now = g.K.Keeper.calls c.restart.new.keeper in
    let w = c.args.machine.now in
    let v = c.restart.new.machine in
    comes-at (event_of c.args.event.now) restart (Ok tt) reported now w v (ap event_of c.in-Restart.is)
    (restart-comes w v reported now c.restart.ensures.calls c.in-Ok.ensures.home c.in-Ok.ensures.request c.in-Ok.ensures.made)

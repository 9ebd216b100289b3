use Rattle.std.proofs.Common.{◌≡◌, Ok, Err}
use Rattle.archive_world.specs.View.{events_of}
use Rattle.archive_world.proofs.Replaying.{loaded-ends, loaded-fault}
use Rattle.archive_world.proofs.schedule.replay_from.Goals as goal

pub returns-in-Ok-run-clause-ran : goal.returns-in-Ok-run-clause-ran
returns-in-Ok-run-clause-ran g c =
    loaded-ends (events_of c.args.events.now) (g.K.Keeper.calls c.args.keeper.now) (g.K.Keeper.calls c.run.new.keeper)
    (g.K.Keeper.calls c.load.new.keeper) c.load.ensures.calls c.in-Ok.machine c.in-Ok.ensures.begins (Ok c.in-Ok-run.outcome) c.in-Ok-run.ensures

pub returns-in-Err-run-clause-ended : goal.returns-in-Err-run-clause-ended
returns-in-Err-run-clause-ended g c = λ fault is.
    let events = events_of c.args.events.now in
    let reported = g.K.Keeper.calls c.args.keeper.now in
    let now = g.K.Keeper.calls c.run.new.keeper in
    let same : c.in-Err-run.fault ≡ fault = cc in
    loaded-fault events reported now c.in-Err-run.fault fault same
    (loaded-ends events reported now (g.K.Keeper.calls c.load.new.keeper) c.load.ensures.calls c.in-Ok.machine c.in-Ok.ensures.begins
    (Err c.in-Err-run.fault) c.in-Err-run.ensures)

use Rattle.std.proofs.Common.{length, arith}
use Rattle.std.proofs.lemmas.List.{take_all}
use Rattle.archive_world.specs.View.{events_of}
use Rattle.archive_world.proofs.Replaying.{ran-to, stopped-after}
use Rattle.archive_world.proofs.schedule.run.Goals as goal

pub returns-in-Ok-outcome : goal.returns-in-Ok-outcome
returns-in-Ok-outcome g c = λ o begins again.
    ran-to o (events_of c.args.events.now) (g.K.Keeper.calls c.args.keeper.now) (g.K.Keeper.calls c.happen_all.new.keeper)
    c.happen_all.new.machine c.in-Ok-outcome.outcome c.in-Ok-outcome.ensures (c.in-Ok.ensures o begins again)

pub returns-in-Err-outcome : goal.returns-in-Err-outcome
returns-in-Err-outcome g c = λ o begins again.
    let events = events_of c.args.events.now in
    stopped-after o events (g.K.Keeper.calls c.args.keeper.now) (g.K.Keeper.calls c.happen_all.new.keeper) c.happen_all.new.machine
    (take_all (length events) events (omega arith)) (c.in-Ok.ensures o begins again)

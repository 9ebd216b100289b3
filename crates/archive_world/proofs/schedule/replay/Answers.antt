use Rattle.archive_world.specs.declared.world_fault.WorldFault.TheVariants.{BadEvent, PortReused, NotKept, NotLoaded, Memory}
use Rattle.archive_world.specs.View.{events_of}
use Rattle.archive_world.proofs.Replaying.{ran-by, fault-by}
use Rattle.archive_world.proofs.schedule.replay.Goals as goal

pub returns-clause-ran : goal.returns-clause-ran
returns-clause-ran g c =
    ran-by (events_of c.args.events.now) (g.K.Keeper.calls c.args.keeper.now) (g.K.Keeper.calls c.run.new.keeper) c.new-machine.result
    c.new-machine.ensures c.run.result c.run.ensures

pub returns-clause-bad : goal.returns-clause-bad
returns-clause-bad g c = λ i is.
    fault-by (events_of c.args.events.now) (g.K.Keeper.calls c.args.keeper.now) (g.K.Keeper.calls c.run.new.keeper) c.new-machine.result
    c.new-machine.ensures c.run.result c.run.ensures (BadEvent i) is

pub returns-clause-reused : goal.returns-clause-reused
returns-clause-reused g c = λ i is.
    fault-by (events_of c.args.events.now) (g.K.Keeper.calls c.args.keeper.now) (g.K.Keeper.calls c.run.new.keeper) c.new-machine.result
    c.new-machine.ensures c.run.result c.run.ensures (PortReused i) is

pub returns-clause-not_kept : goal.returns-clause-not_kept
returns-clause-not_kept g c = λ i is.
    fault-by (events_of c.args.events.now) (g.K.Keeper.calls c.args.keeper.now) (g.K.Keeper.calls c.run.new.keeper) c.new-machine.result
    c.new-machine.ensures c.run.result c.run.ensures (NotKept i) is

pub returns-clause-not_loaded : goal.returns-clause-not_loaded
returns-clause-not_loaded g c = λ i is.
    fault-by (events_of c.args.events.now) (g.K.Keeper.calls c.args.keeper.now) (g.K.Keeper.calls c.run.new.keeper) c.new-machine.result
    c.new-machine.ensures c.run.result c.run.ensures (NotLoaded i) is

pub returns-clause-memory : goal.returns-clause-memory
returns-clause-memory g c = λ is.
    fault-by (events_of c.args.events.now) (g.K.Keeper.calls c.args.keeper.now) (g.K.Keeper.calls c.run.new.keeper) c.new-machine.result
    c.new-machine.ensures c.run.result c.run.ensures Memory is

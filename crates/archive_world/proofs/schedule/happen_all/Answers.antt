use Rattle.std.proofs.Common.{◌∙◌, arith}
use Rattle.archive_world.proofs.Replaying.{happened-start, one-more, ends-at, all-made}
use Rattle.archive_world.proofs.schedule.happen_all.Goals as goal

pub loop-i-init : goal.loop-i-init
loop-i-init g c =
    record {
      within = omega arith;
      home = c.requires.home;
      request = c.requires.request;
      so_far = λ o begins again. happened-start o (g.K.Keeper.calls c.args.keeper.now) c.args.machine.now begins;
    }

pub returns-in-Err : goal.returns-in-Err
returns-in-Err g c =
    ends-at c.args.events.now c.loop-i.i c.index-events-i.result c.loop-i-test.true c.index-events-i.is c.args.machine.now
    (g.K.Keeper.calls c.args.keeper.now) (g.K.Keeper.calls c.loop-i.keeper) (g.K.Keeper.calls c.happen.new.keeper) c.loop-i.machine
    c.happen.new.machine c.loop-i.invariant.so_far c.fault_at.result c.in-Err.fault c.fault_at.ensures c.in-Err.ensures

pub loop-i-preserved : goal.loop-i-preserved
loop-i-preserved g c =
    let made = c.in-Ok.ensures in
    record {
      within = omega arith;
      home = made.0.0 ∙ c.loop-i.invariant.home;
      request = made.0.1 ∙ c.loop-i.invariant.request;
      so_far = one-more c.args.events.now c.loop-i.i c.index-events-i.result c.loop-i-test.true c.index-events-i.is c.args.machine.now
          (g.K.Keeper.calls c.args.keeper.now) (g.K.Keeper.calls c.loop-i.keeper) (g.K.Keeper.calls c.happen.new.keeper) c.loop-i.machine
          c.happen.new.machine c.loop-i.invariant.so_far made;
    }

pub returns : goal.returns
returns g c =
    all-made c.args.events.now c.loop-i.i c.args.machine.now (g.K.Keeper.calls c.args.keeper.now) (g.K.Keeper.calls c.loop-i.keeper)
    c.loop-i.machine c.loop-i-test.false c.loop-i.invariant.so_far

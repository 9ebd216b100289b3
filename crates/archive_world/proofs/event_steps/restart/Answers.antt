use Rattle.archive_world.proofs.Steps.{restarted}
use Rattle.archive_world.proofs.event_steps.restart.Goals as goal

pub returns-clause-made : goal.returns-clause-made
returns-clause-made g c =
    restarted c.restart.result c.args.machine.now c.restart.new.self (g.K.Keeper.calls c.args.keeper.now) c.restart.ensures.loaded c.restart.ensures.world

use Rattle.archive_table.specs.Keeper.{texts_of}
use Rattle.archive_world.proofs.Beginnings.{begins-with, table-fails}
use Rattle.archive_world.proofs.machine.Machine.load.Goals as goal

pub returns-in-Err-restart-clause-fault : goal.returns-in-Err-restart-clause-fault
returns-in-Err-restart-clause-fault g c =
    let texts = c.in-Ok.texts in
    table-fails (g.K.Keeper.calls c.args.keeper.now) (texts_of texts.lynx) (texts_of texts.ms) c.in-Ok.ensures.lynx c.in-Ok.ensures.ms
    c.in-Err-restart.fault c.in-Err-restart.ensures.fault

pub returns-in-Ok-give-clause-begins : goal.returns-in-Ok-give-clause-begins
returns-in-Ok-give-clause-begins g c =
    let texts = c.in-Ok.texts in
    let now = c.restart.new.keeper in
    begins-with (g.K.Keeper.calls c.args.keeper.now) (texts_of texts.lynx) (texts_of texts.ms) c.in-Ok.ensures.lynx c.in-Ok.ensures.ms
    (texts_of now.lynx) (texts_of now.ms) c.in-Ok-restart.ensures.calls c.new-machine.result c.restart.new.self c.give.new.self c.new-machine.ensures c.in-Ok-restart.ensures.loaded c.in-Ok-restart.ensures.world
    c.in-Ok-give.ensures

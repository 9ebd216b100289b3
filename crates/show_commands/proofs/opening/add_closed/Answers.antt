use Rattle.std.proofs.Common.{Some}
use Rattle.command_line.specs.Inputs.{known_of}
use Rattle.show_commands.proofs.Opened.{known_next}
use Rattle.show_commands.proofs.opening.add_closed.Goals as goal

pub loop-source-preserved : goal.loop-source-preserved
loop-source-preserved g c =
    let before = c.loop-source in
    known_next _ (known_of (g.S.FileSystem.bytes_of c.args.system.now) (Some c.args.standard.now)) _ before.inputs.items c.push.new.self.items c.closed_source.result c.args.sources.now before.source-index c.source-item.result
    c.loop-source-test.true c.source-item.is c.in_ok-push.ensures.items c.closed_source.ensures before.invariant

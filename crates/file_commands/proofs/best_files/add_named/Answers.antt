use Rattle.file_commands.proofs.Finding.{names_next}
use Rattle.file_commands.proofs.best_files.add_named.Goals as goal

pub loop-name-preserved : goal.loop-name-preserved
loop-name-preserved c =
    names_next c.args.names.now c.loop-name.name-index c.name-item.result c.args.sources.now.items c.loop-name.sources.items c.push.new.self.items c.in_ok-named.field-0
    c.loop-name-test.true c.name-item.is c.loop-name.invariant c.as_str.result.now c.as_str.ensures.value c.in_ok-named.ensures c.in_ok-push.ensures.items

use Rattle.file_commands.proofs.Finding.{stand_next}
use Rattle.file_commands.proofs.best_files.find.Goals as goal

pub loop-file-preserved : goal.loop-file-preserved
loop-file-preserved g c =
    let before = c.loop-file in
    stand_next (g.S.FileSystem.below_of c.args.system.now) c.args.files.now before.file-index c.file-item.result before.sources.items c.add_inputs.new.named_so_far.items before.found.items c.add_inputs.new.found.items
    c.loop-file-test.true c.file-item.is before.invariant c.in_ok-add_inputs.ensures

use Rattle.archive_table.proofs.Blocks.{take_gone}
use Rattle.archive_table.proofs.incoming.Incoming.on_data.Goals as goal

pub invariant_of-self-2 : goal.invariant_of-self-2
invariant_of-self-2 g c = take_gone c.on_data.new.self c.take_file-file.new.self c.take_file-file.ensures.receiver c.take_file-file.ensures.fits

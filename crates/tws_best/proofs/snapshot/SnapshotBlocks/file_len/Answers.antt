use Rattle.std.proofs.Common.{rules}
use Rattle.tws_best.proofs.snapshot.SnapshotBlocks.file_len.Goals as goal

pub returns : goal.returns
returns g c = search rules

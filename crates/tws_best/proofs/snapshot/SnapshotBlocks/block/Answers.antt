use Rattle.std.proofs.Common.{rules}
use Rattle.tws_best.proofs.snapshot.SnapshotBlocks.block.Goals as goal

pub returns-clause-count : goal.returns-clause-count
returns-clause-count g c = search rules

pub returns-clause-bytes : goal.returns-clause-bytes
returns-clause-bytes g c = search rules

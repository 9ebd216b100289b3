use Rattle.std.proofs.Common.{rules}
use Rattle.tws_best.proofs.snapshot.Snapshot.record_count.Goals as goal

pub returns : goal.returns
returns g c = search rules

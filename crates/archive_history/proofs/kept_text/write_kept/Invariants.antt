use Rattle.std.proofs.Common.{◌-◌, length}
use Rattle.archive_history.proofs.Passing.{HasPassed}
use Rattle.archive_history.proofs.kept_text.write_kept.Given as goal

abbrev pub invariant-loop-size : goal.invariant-loop-size
invariant-loop-size g l = HasPassed (g.W.Write.contents l.fn.out) (g.W.Write.contents l.out) l.buffer l.file l.begun l.at

abbrev pub decreases-loop-size : goal.decreases-loop-size
decreases-loop-size g l = length l.file - l.at

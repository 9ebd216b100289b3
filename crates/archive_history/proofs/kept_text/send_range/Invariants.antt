use Rattle.std.proofs.Common.{◌-◌, ◌++◌, ◌≤◌, take, drop}
use Rattle.byte_output.specs.Output.{Sends}
use Rattle.archive_history.proofs.kept_text.send_range.Given as goal

abbrev pub invariant-loop-at : goal.invariant-loop-at
invariant-loop-at g l = record {
  begun : l.from ≤ l.at;
  within : l.at ≤ l.to;
  sent : Sends (g.W.Write.contents l.fn.out) (g.W.Write.contents l.out) (l.fn.buffer ++ take (l.at - l.from) (drop l.from l.file)) l.buffer;
}

abbrev pub decreases-loop-at : goal.decreases-loop-at
decreases-loop-at g l = l.to - l.at

use Rattle.std.proofs.Common.{◌≡◌, ◌++◌, map, drop}
use Rattle.schedule_text.specs.Schedule.{lines_of, lines_after}
use Rattle.schedule_text.proofs.lines.lines_in.Given as goal

abbrev pub invariant-loop-byte : goal.invariant-loop-byte
invariant-loop-byte l = lines_of l.text ≡ map (λ x. x.items) l.lines.items ++ lines_after l.line.items (drop l.byte-index l.text)

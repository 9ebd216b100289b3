use Rattle.std.proofs.Common.{◌≡◌, ◌++◌, map, drop}
use Rattle.schedule_text.specs.Schedule.{words_of, words_after}
use Rattle.schedule_text.proofs.words.words_in.Given as goal

abbrev pub invariant-loop-byte : goal.invariant-loop-byte
invariant-loop-byte l = words_of l.line ≡ map (λ x. x.items) l.words.items ++ words_after l.word.items (drop l.byte-index l.line)

use Rattle.std.proofs.Common.{◌≡◌, ◌≤◌, drop}
use Rattle.schedule_text.specs.Words.{number_in, number_after}
use Rattle.schedule_text.proofs.fields.number.Given as goal

abbrev pub invariant-loop-byte : goal.invariant-loop-byte
invariant-loop-byte l = record { is : number_in l.most l.word ≡ number_after l.most l.n (drop l.byte-index l.word); bounded : l.n ≤ l.most }

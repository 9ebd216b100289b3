use Rattle.tws_reader.specs.Reader.{HasAtMost}
use Rattle.test_refusals.proofs.files.read_again.Given as goal

abbrev pub invariant-loop-i : goal.invariant-loop-i
invariant-loop-i l = HasAtMost l.reader l.i

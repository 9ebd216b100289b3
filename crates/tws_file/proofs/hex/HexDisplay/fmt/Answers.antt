use Rattle.std.proofs.Common.{rules, arith}
use Rattle.std.proofs.Output.{has_written_append, has_written_of_eq}
use Rattle.tws_file.proofs.Words.{hex-more}
use Rattle.tws_file.proofs.hex.HexDisplay.fmt.Goals as goal

pub loop-byte-preserved : goal.loop-byte-preserved
loop-byte-preserved g c = λ p.
    has_written_of_eq _ _ _ _ _ (hex-more c.args.self.now.0.now c.loop-byte.byte-index c.loop-byte-test.true (omega arith)) (has_written_append _ _ _ _ _ _ (c.loop-byte.invariant p) (search rules))

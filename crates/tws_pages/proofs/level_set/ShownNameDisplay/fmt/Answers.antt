use Rattle.std.proofs.Common.{rules}
use Rattle.std.proofs.Output.{has_written_append, has_written_of_eq}
use Rattle.tws_pages.proofs.Named.{shown-more}
use Rattle.tws_pages.proofs.level_set.ShownNameDisplay.fmt.Goals as goal

pub loop-byte-preserved : goal.loop-byte-preserved
loop-byte-preserved g c = λ p.
    has_written_of_eq _ _ _ _ _ (shown-more c.cut-shown.result.now c.loop-byte.byte-index c.loop-byte-test.true) (has_written_append _ _ _ _ _ _ (c.loop-byte.invariant p) (search rules))

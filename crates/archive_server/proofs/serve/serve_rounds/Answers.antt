use Rattle.std.proofs.Common.{arith}
use Rattle.archive_server.proofs.Turns.{many_none, many_more}
use Rattle.archive_server.proofs.serve.serve_rounds.Goals as goal

pub loop-round-init : goal.loop-round-init
loop-round-init g c = (many_none _ _ _ _, omega arith)

pub loop-round-preserved : goal.loop-round-preserved
loop-round-preserved g c =
    (many_more _ _ _ _ _ _ _ _ c.loop-round.invariant.0 c.round.ensures.made c.counted-taken.ensures.count, omega arith)

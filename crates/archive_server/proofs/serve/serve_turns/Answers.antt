use Rattle.std.proofs.Common.{arith}
use Rattle.archive_server.proofs.Turns.{many_none, many_more}
use Rattle.archive_server.proofs.serve.serve_turns.Goals as goal

pub loop-turn-init : goal.loop-turn-init
loop-turn-init g c = (many_none _ _ _ _, omega arith)

pub loop-turn-preserved : goal.loop-turn-preserved
loop-turn-preserved g c =
    (many_more _ _ _ _ _ _ _ _ c.loop-turn.invariant.0 c.turn.ensures c.counted-taken.ensures.count, omega arith)

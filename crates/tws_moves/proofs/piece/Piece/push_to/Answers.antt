use Rattle.std.proofs.Common.{◌+◌, ◌-◌, arith}
use Rattle.tws_moves.proofs.NextPieces.{pushed_more, pushed_all}
use Rattle.tws_moves.proofs.piece.Piece.push_to.Goals as goal

pub loop-preserved : goal.loop-preserved
loop-preserved g c =
    pushed_more c.loop.bytes.items c.push.new.self.items _ (c.args.self.length - c.loop.counter)
    (c.args.self.length - (c.loop.counter + 1)) c.loop.rest c.loop.invariant c.in_ok-push.ensures.items (omega arith)
    (omega arith)

pub returns : goal.returns
returns g c =
    pushed_all c.loop.bytes.items _ (c.args.self.length - c.loop.counter) c.loop.rest c.loop.invariant (omega arith)

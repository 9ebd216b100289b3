use Rattle.std.proofs.Common.{arith}
use Rattle.archive_history.proofs.Ranges.{range_more}
use Rattle.archive_history.proofs.kept_text.send_range.Goals as goal

pub loop-at-preserved : goal.loop-at-preserved
loop-at-preserved g c = record {
  begun = omega (arith, c.loop-at.invariant.begun);
  within = c.piece_at-piece.ensures.most;
  sent =
      range_more (g.W.Write.contents c.args.out.now) (g.W.Write.contents c.loop-at.out) (g.W.Write.contents c.send.new.out) c.args.buffer.now c.loop-at.buffer c.send.new.self c.args.file.now
      c.piece_at-piece.result.now c.args.from c.loop-at.at c.loop-at.invariant.begun c.piece_at-piece.ensures.piece c.loop-at.invariant.sent c.in_ok-send.ensures.ok;
}

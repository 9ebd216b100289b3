use Rattle.std.proofs.Common.{refl}
use Rattle.tws_moves.proofs.Spellings.{counts_piece, counts_more}
use Rattle.tws_moves.proofs.counting.count_next.Goals as goal

pub returns-in-Some-clause-counts : goal.returns-in-Some-clause-counts
returns-in-Some-clause-counts c =
    let rest = c.skip_short-count.result.1.now in
    let found = c.in-Some in
    counts_more c.args.bytes.now rest found.after.now c.skip_short-count.result.0 c.count_piece.result _ c.skip_short-count.ensures.counts
    (counts_piece rest found.piece.now found.after.now c.count_piece.result found.ensures.piece found.ensures.split c.count_piece.ensures.count) refl

use Rattle.std.proofs.Common.{arith}
use Rattle.archive_history.proofs.Ranges.{offset_inside, piece_is, piece_some}
use Rattle.archive_history.proofs.kept_text.piece_at.Goals as goal

pub slice_bounds-rest-count : goal.slice_bounds-rest-count
slice_bounds-rest-count g c = omega (arith, offset_inside c.args.file.now c.chunk-chunk.result.now c.args.at (omega (arith, c.requires.before, c.requires.within)) c.chunk-chunk.ensures)

pub slice_bounds-rest-start : goal.slice_bounds-rest-start
slice_bounds-rest-start g c = omega (arith, offset_inside c.args.file.now c.chunk-chunk.result.now c.args.at (omega (arith, c.requires.before, c.requires.within)) c.chunk-chunk.ensures)

pub returns-clause-piece : goal.returns-clause-piece
returns-clause-piece g c =
    piece_is c.args.file.now c.chunk-chunk.result.now c.args.at c.args.to c.min-count.result (omega (arith, c.requires.before, c.requires.within)) c.requires.before c.chunk-chunk.ensures c.min-count.ensures

pub returns-clause-some : goal.returns-clause-some
returns-clause-some g c =
    piece_some c.args.file.now c.chunk-chunk.result.now c.args.at c.args.to c.min-count.result (omega (arith, c.requires.before, c.requires.within)) c.requires.before c.chunk-chunk.ensures c.min-count.ensures

use Rattle.archive_history.proofs.Ranges.{byte_in, offset_inside}
use Rattle.archive_history.proofs.kept_text.byte_at.Goals as goal

pub bounds-chunk-at : goal.bounds-chunk-at
bounds-chunk-at g c = offset_inside c.args.file.now c.chunk-chunk.result.now c.args.at c.requires c.chunk-chunk.ensures

pub returns : goal.returns
returns g c = byte_in c.args.file.now c.chunk-chunk.result.now c.args.at c.chunk-chunk.ensures

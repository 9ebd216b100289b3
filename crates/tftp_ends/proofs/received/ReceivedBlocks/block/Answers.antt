use Rattle.std.proofs.Common.{◌-◌, ◌*◌, [], arith, ap, sym, refl, length}
use Rattle.tftp_packet.specs.declared.sizes.TheConstants.{BLOCK_SIZE}
use Rattle.tftp_ends.proofs.Chunking.{block_past, offset_within, copied_chunk}
use Rattle.tftp_ends.proofs.received.ReceivedBlocks.block.Goals as goal

pub returns-then-i-chunk_count-clause-count : goal.returns-then-i-chunk_count-clause-count
returns-then-i-chunk_count-clause-count g c =
    sym (ap length (block_past c.args.self.now (BLOCK_SIZE * (c.from.result - 1)) c.args.k (omega (arith, c.from.ensures)) (omega arith)))

pub returns-then-i-chunk_count-clause-bytes : goal.returns-then-i-chunk_count-clause-bytes
returns-then-i-chunk_count-clause-bytes g c =
    sym (block_past c.args.self.now (BLOCK_SIZE * (c.from.result - 1)) c.args.k (omega (arith, c.from.ensures)) (omega arith))

pub slice_bounds-rest-count : goal.slice_bounds-rest-count
slice_bounds-rest-count g c =
    offset_within c.args.self.now c.chunk-chunk.result.now (BLOCK_SIZE * (c.from.result - 1)) c.args.k (omega (arith, c.from.ensures)) c.requires.first c.requires.last c.chunk-chunk.ensures

pub slice_bounds-rest-start : goal.slice_bounds-rest-start
slice_bounds-rest-start g c =
    offset_within c.args.self.now c.chunk-chunk.result.now (BLOCK_SIZE * (c.from.result - 1)) c.args.k (omega (arith, c.from.ensures)) c.requires.first c.requires.last c.chunk-chunk.ensures

pub returns-clause-count : goal.returns-clause-count
returns-clause-count g c =
    (copied_chunk c.args.self.now c.chunk-chunk.result.now _ [] c.copy_from_slice.new.self
    (BLOCK_SIZE * (c.from.result - 1)) c.args.k c.min-count.result
    (omega (arith, c.from.ensures)) c.chunk-chunk.ensures refl c.min-count.ensures c.copy_from_slice.ensures.after).0

pub returns-clause-bytes : goal.returns-clause-bytes
returns-clause-bytes g c =
    (copied_chunk c.args.self.now c.chunk-chunk.result.now _ _ c.copy_from_slice.new.self
    (BLOCK_SIZE * (c.from.result - 1)) c.args.k c.min-count.result
    (omega (arith, c.from.ensures)) c.chunk-chunk.ensures refl c.min-count.ensures c.copy_from_slice.ensures.after).1

use Rattle.std.proofs.Common.{arith}
use Rattle.tftp_ends.proofs.Chunking.{AreChunks, begun_is, begun_fits, grown_fits}
use Rattle.tftp_ends.proofs.chunks.Chunks.push_block.Goals as goal

pub invariant_of-self : goal.invariant_of-self
invariant_of-self g c =
    let fits : AreChunks c.begin_chunk.new.full.items c.begin_chunk.new.last.items =
    begun_fits c.args.self.now c.self.inside.full.items c.self.inside.last.items c.args.block.now c.self.view_is c.self.invariant.whole c.requires.room
    (omega (arith, c.self.inside.last.ok.0)) c.requires.short c.begin_chunk.result c.begin_chunk.new.full.items c.begin_chunk.new.last.items c.begin_chunk.ensures.joins c.begin_chunk.ensures.begins c.begin_chunk.ensures.full_stays c.begin_chunk.ensures.last_stays in
    record { whole = fits.0; within = fits.1; room = fits.2 }

pub returns-then-len-eq-CHUNK_SIZE-clause-ok : goal.returns-then-len-eq-CHUNK_SIZE-clause-ok
returns-then-len-eq-CHUNK_SIZE-clause-ok g c =
    begun_is c.args.self.now c.self.inside.full.items c.self.inside.last.items c.args.block.now c.self.view_is c.self.invariant.whole c.requires.room
    (omega (arith, c.self.inside.last.ok.0)) c.requires.short c.begin_chunk.result c.begin_chunk.new.full.items c.begin_chunk.new.last.items c.begin_chunk.ensures.joins c.begin_chunk.ensures.begins

pub invariant_of-self-2 : goal.invariant_of-self-2
invariant_of-self-2 g c =
    let fits : AreChunks c.self.inside.full.items c.extend_from_slice.new.self.items =
    grown_fits c.args.self.now c.self.inside.full.items c.self.inside.last.items c.args.block.now c.self.view_is c.self.invariant.whole c.requires.room _ c.extend_from_slice.new.self.items c.self.invariant.within
    (λ e. omega (arith, c.self.inside.last.ok.0)) c.requires.whole_blocks c.requires.short c.extend_from_slice.ensures.items in
    record { whole = fits.0; within = fits.1; room = fits.2 }

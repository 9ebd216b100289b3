use Rattle.std.proofs.Common.{arith, sym, ◌∙◌}
use Rattle.tftp_ends.proofs.Chunking.{chunk_in, chunk_last}
use Rattle.tftp_ends.proofs.chunks.Chunks.chunk.Goals as goal

pub returns-then-i-len : goal.returns-then-i-len
returns-then-i-len g c =
    c.as_slice.ensures ∙ c.index.ensures
    ∙ chunk_in c.args.self.now c.self.inside.full.items c.self.inside.last.items c.args.i _ (sym c.self.view_is) c.self.invariant.whole (omega (arith, c.self.inside.full.ok.0))

pub returns-else-i-len : goal.returns-else-i-len
returns-else-i-len g c =
    c.as_slice-else-i-len.ensures.value
    ∙ chunk_last c.args.self.now c.self.inside.full.items c.self.inside.last.items c.args.i
    (sym c.self.view_is) c.self.invariant.whole c.self.invariant.within (omega (arith, c.self.inside.full.ok.0)) c.requires

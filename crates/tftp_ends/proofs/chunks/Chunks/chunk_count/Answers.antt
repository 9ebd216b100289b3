use Rattle.std.proofs.Common.{arith, sym}
use Rattle.std.proofs.lemmas.Bool.{eqb-true, eqb-false}
use Rattle.tftp_ends.proofs.Chunking.{held_size}
use Rattle.tftp_ends.proofs.chunks.Chunks.chunk_count.Goals as goal

pub returns-then-is_empty : goal.returns-then-is_empty
returns-then-is_empty g c =
    omega (
      arith,
      held_size c.args.self.now c.self.inside.full.items c.self.inside.last.items c.self.view_is c.self.invariant.whole,
      c.self.inside.full.ok.0,
      c.self.inside.last.ok.0,
      eqb-true _ _
          (sym c.if-is_empty.ensures),
      c.len.ensures,
    )

pub returns-else-is_empty : goal.returns-else-is_empty
returns-else-is_empty g c =
    omega (
      arith,
      held_size c.args.self.now c.self.inside.full.items c.self.inside.last.items c.self.view_is c.self.invariant.whole,
      c.self.inside.full.ok.0,
      c.self.inside.last.ok.0,
      c.self.invariant.within,
      eqb-false _ _
          (sym c.if-is_empty.ensures),
      c.len-else-is_empty.ensures,
    )

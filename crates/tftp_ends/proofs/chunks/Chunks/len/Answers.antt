use Rattle.std.proofs.Common.{arith, length-append}
use Rattle.std.specs.List.{concat}
use Rattle.tftp_ends.proofs.Chunking.{held_size, length-full}
use Rattle.tftp_ends.proofs.chunks.Chunks.len.Goals as goal

pub overflow_mul-result : goal.overflow_mul-result
overflow_mul-result g c =
    omega (
      arith,
      length-append
          (concat c.self.inside.full.items) c.self.inside.last.items,
      length-full c.self.inside.full.items c.self.invariant.whole,
      c.self.inside.full.ok.0,
      c.self.inside.last.ok.0,
      c.self.invariant.room,
    )

pub overflow_add-result : goal.overflow_add-result
overflow_add-result g c =
    omega (
      arith,
      length-append
          (concat c.self.inside.full.items) c.self.inside.last.items,
      length-full c.self.inside.full.items c.self.invariant.whole,
      c.self.inside.full.ok.0,
      c.self.inside.last.ok.0,
      c.self.invariant.room,
    )

pub returns-clause-count : goal.returns-clause-count
returns-clause-count g c =
    omega (arith, held_size c.args.self.now c.self.inside.full.items c.self.inside.last.items c.self.view_is c.self.invariant.whole, c.self.inside.full.ok.0, c.self.inside.last.ok.0)

pub returns-clause-most : goal.returns-clause-most
returns-clause-most g c =
    omega (
      arith,
      length-append
          (concat c.self.inside.full.items) c.self.inside.last.items,
      length-full c.self.inside.full.items c.self.invariant.whole,
      c.self.inside.full.ok.0,
      c.self.inside.last.ok.0,
      c.self.invariant.room,
    )

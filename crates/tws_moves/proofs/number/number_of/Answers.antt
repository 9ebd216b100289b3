use Rattle.std.proofs.Common.{arith}
use Rattle.tws_moves.proofs.Numbers.{number_bound_from}
use Rattle.tws_moves.proofs.number.number_of.Goals as goal

pub overflow_mul-number : goal.overflow_mul-number
overflow_mul-number c =
    let bound = number_bound_from c.args.bytes.now (c.loop-index.index) (λ i. omega (arith, c.type_inv.bytes i)) c.requires in
    omega (arith, bound, c.loop-index.invariant.number)

pub overflow_add-number : goal.overflow_add-number
overflow_add-number c =
    let bound = number_bound_from c.args.bytes.now (c.loop-index.index) (λ i. omega (arith, c.type_inv.bytes i)) c.requires in
    omega (arith, bound, c.loop-index.invariant.number, c.from.ensures)

pub returns-clause-bound : goal.returns-clause-bound
returns-clause-bound c =
    let bound = number_bound_from c.args.bytes.now (c.loop-index.index) (λ i. omega (arith, c.type_inv.bytes i)) c.requires in
    omega (arith, bound, c.loop-index.invariant.number)

use Rattle.std.proofs.Common.{◌*◌, ◌<◌, ◌^◌, arith, ap, sym, subst, ◌∙◌}
use Rattle.tws_moves.specs.Bytes.{bits}
use Rattle.tws_moves.proofs.Numbers.{first_number, first_bound}
use Rattle.tws_moves.proofs.number.number_of_first.Goals as goal

pub returns-clause-number : goal.returns-clause-number
returns-clause-number c =
    c.bits.ensures
    ∙ ap (bits 0 (8 * c.args.count)) c.read_u64.ensures
    ∙ first_number c.args.count c.args.bytes.now (λ i. omega (arith, c.type_inv.bytes i)) (omega (arith, c.requires.short)) c.if-bytes-lt8.false

pub returns-clause-bound : goal.returns-clause-bound
returns-clause-bound c =
    subst (λ n. n < 2 ^ 40) (sym (returns-clause-number c)) (first_bound c.args.count c.args.bytes.now (λ i. omega (arith, c.type_inv.bytes i)) c.requires.short)

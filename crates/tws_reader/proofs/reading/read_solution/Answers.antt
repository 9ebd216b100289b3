use Rattle.std.proofs.Common.{◌∙◌, ◌+◌, arith, drop, subst, refl}
use Rattle.std.proofs.lemmas.List.{take_rest}
use Rattle.std.proofs.lemmas.Result.{err_from_is_err_and}
use Rattle.tws_reader.specs.Steps.{MovesFailAt}
use Rattle.tws_reader.proofs.Bodies.{solved_from, solution_fits, solution_cut}
use Rattle.tws_reader.proofs.reading.read_solution.Goals as goal

pub returns-clause-bytes : goal.returns-clause-bytes
returns-clause-bytes g c =
    solved_from c.args.rest.now _ _ c.in_ok-moves.moves c.read_u32-seed.result c.read_u32-ticks.result
    (λ i. omega (arith, c.type_inv.rest i)) (omega arith) (take_rest c.args.rest.now 2)
    (take_rest c.args.rest.now 6) c.read_u32-seed.ensures c.read_u32-ticks.ensures
    (c.in_ok-moves.ensures.bytes ∙ take_rest c.args.rest.now 10)

pub returns-in_err-moves-clause-fault : goal.returns-in_err-moves-clause-fault
returns-in_err-moves-clause-fault g c =
    let p = err_from_is_err_and c.from_residual.result c.from_residual.ensures.1 in
    let rest = c.args.rest.now in
    let fault = subst (λ xs. MovesFailAt xs (c.args.offset + 10) c.in_err-moves.field-0.0) (take_rest rest 10) c.in_err-moves.ensures.fault in
    rw (p.1, p.2) (solution_cut c.args.key rest _ _ (drop 10 rest) c.read_u32-seed.result c.read_u32-ticks.result c.requires.key
    (λ i. omega (arith, c.type_inv.rest i)) c.requires.long c.requires.size (omega (arith, c.read_u32-seed.type_inv))
    (omega (arith, c.read_u32-ticks.type_inv)) refl (c.args.offset + 10) _ (take_rest rest 2)
    (take_rest rest 6) c.read_u32-seed.ensures c.read_u32-ticks.ensures fault)

pub invariant_of-result : goal.invariant_of-result
invariant_of-result g c =
    let rest = c.args.rest.now in
    let moves-is = c.in_ok-moves.ensures.bytes in
    solution_fits c.args.key rest rest rest c.in_ok-moves.moves c.read_u32-seed.result c.read_u32-ticks.result c.requires.key
    (λ i. omega (arith, c.type_inv.rest i)) c.requires.long c.requires.size (omega (arith, c.read_u32-seed.type_inv))
    (omega (arith, c.read_u32-ticks.type_inv)) (moves-is ∙ take_rest rest 10) (rw moves-is c.in_ok-moves.ensures.whole)

pub returns-clause-fits : goal.returns-clause-fits
returns-clause-fits g c = invariant_of-result g c

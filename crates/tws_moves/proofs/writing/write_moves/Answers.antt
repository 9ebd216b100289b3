use Rattle.std.proofs.Common.{arith, inl, ap, length, length-drop}
use Rattle.tws_moves.specs.Move.{waits_from}
use Rattle.tws_moves.proofs.Least.{held_shortest, spelled_least}
use Rattle.tws_moves.proofs.LateMoves.{too_late}
use Rattle.tws_moves.proofs.NextPieces.{writes_more, all_held, all_written}
use Rattle.tws_moves.proofs.Waits.{waits_length}
use Rattle.tws_moves.proofs.writing.write_moves.Goals as goal

pub returns-in_default-clause-fault : goal.returns-in_default-clause-fault
returns-in_default-clause-fault g c =
    inl (too_late c.args.moves.now c.requires c.loop-index.index (omega arith) c.loop-index.invariant.held c.in_default.ensures.none)

pub returns-in_default-clause-accepts : goal.returns-in_default-clause-accepts
returns-in_default-clause-accepts g c = λ others spells.
    absurd ((too_late c.args.moves.now c.requires c.loop-index.index (omega arith) c.loop-index.invariant.held c.in_default.ensures.none).none (others, spells))

pub overflow_add-index : goal.overflow_add-index
overflow_add-index g c =
    let next = c.in-Some.ensures.next in
    omega (arith, next.within, length-drop c.loop-index.index (waits_from 0 c.args.moves.now), waits_length 0 c.args.moves.now)

pub loop-index-preserved : goal.loop-index-preserved
loop-index-preserved g c =
    let piece = c.in-Some.piece in
    writes_more (waits_from 0 c.args.moves.now) c.loop-index.bytes.items c.push_to.new.bytes.items c.loop-index.index piece.length piece.number piece.moves c.loop-index.invariant c.in-Some.ensures.next c.in_ok-push_to.ensures

pub returns-clause-written : goal.returns-clause-written
returns-clause-written g c =
    all_written (waits_from 0 c.args.moves.now) c.loop-index.bytes.items c.loop-index.index c.loop-index.invariant (omega (arith, waits_length 0 c.args.moves.now))

pub returns-clause-shortest : goal.returns-clause-shortest
returns-clause-shortest g c =
    let written = returns-clause-written g c in
    rw written (held_shortest c.args.moves.now c.requires
    (all_held (waits_from 0 c.args.moves.now) c.loop-index.bytes.items c.loop-index.index c.loop-index.invariant
    (omega (arith, waits_length 0 c.args.moves.now))))

pub returns-clause-accepts : goal.returns-clause-accepts
returns-clause-accepts g c = λ others spells. omega (arith, ap length (returns-clause-written g c), spelled_least others c.args.moves.now spells)

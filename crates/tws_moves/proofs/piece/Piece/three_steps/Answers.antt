use Rattle.std.proofs.Common.{arith, sym, ◌∙◌}
use Rattle.tws_moves.specs.Move.{waits_from}
use Rattle.tws_moves.proofs.Waits.{waits_length}
use Rattle.tws_moves.proofs.NextPieces.{few_apart, three_apart, three_next}
use Rattle.tws_moves.proofs.piece.Piece.three_steps.Goals as goal

pub returns-then-moves-index-lt3-clause-apart : goal.returns-then-moves-index-lt3-clause-apart
returns-then-moves-index-lt3-clause-apart c =
    few_apart (waits_from 0 c.args.moves.now) c.args.index (omega (arith, waits_length 0 c.args.moves.now)) (omega (arith, waits_length 0 c.args.moves.now))

pub returns-then-not-are_plain-clause-apart : goal.returns-then-not-are_plain-clause-apart
returns-then-not-are_plain-clause-apart c =
    let value = c.are_plain.ensures in
    let test = c.if-not-are_plain.true in
    three_apart (waits_from 0 c.args.moves.now) c.args.index c.of-first.result c.of-second.result c.of-third.result
    (omega (arith, waits_length 0 c.args.moves.now)) c.of-first.ensures c.of-second.ensures c.of-third.ensures
    (sym value ∙ test)

pub returns-clause-next : goal.returns-clause-next
returns-clause-next c =
    let value = c.are_plain.ensures in
    let test = c.if-not-are_plain.false in
    let made = c.of_three in
    three_next (waits_from 0 c.args.moves.now) c.args.index c.of-first.result c.of-second.result c.of-third.result
    (omega (arith, waits_length 0 c.args.moves.now)) c.of-first.ensures c.of-second.ensures c.of-third.ensures made.result.length made.result.number made.result.moves made.ensures.length
    (omega (arith, made.ensures.number, c.direction.ensures, c.direction-2.ensures, c.direction-3.ensures)) made.ensures.moves
    (sym value ∙ test)

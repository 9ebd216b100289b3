use Rattle.std.proofs.lemmas.Grind.{common_steps}
use Rattle.std.proofs.Common.{arith, sym, ◌∙◌}
use Rattle.tws_moves.specs.Move.{waits_from}
use Rattle.tws_moves.proofs.Waits.{waits_length}
use Rattle.tws_moves.proofs.NextPieces.{other_next, other_none}
use Rattle.tws_moves.proofs.piece.Piece.next.Goals as goal

pub returns-then-not-is_plain-clause-next : goal.returns-then-not-is_plain-clause-next
returns-then-not-is_plain-clause-next c =
    let value = c.is_plain.ensures in
    let test = c.if-not-is_plain.true in
    other_next (waits_from 0 c.args.moves.now) c.args.index c.of-wait.result
    (omega (arith, waits_length 0 c.args.moves.now)) c.of-wait.ensures c.alone.result _ _ _
    (sym value ∙ test) c.alone.ensures.held c.alone.ensures.bytes c.alone.ensures.moves

pub returns-then-not-is_plain-clause-none : goal.returns-then-not-is_plain-clause-none
returns-then-not-is_plain-clause-none c =
    other_none (waits_from 0 c.args.moves.now) c.args.index c.of-wait.result (omega (arith, waits_length 0 c.args.moves.now)) c.of-wait.ensures c.alone.result c.alone.ensures.none

pub returns-clause-next : goal.returns-clause-next
returns-clause-next c = grind (arith, common_steps)

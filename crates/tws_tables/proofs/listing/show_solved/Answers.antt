use Rattle.std.proofs.Common.{List, ◌++◌, ◌∙◌, ap, subst, flat_map, string_bytes}
use Rattle.std.proofs.lemmas.Result.{on_ok_weaker, on_err_weaker}
use Rattle.tws_moves.specs.Move.{Move}
use Rattle.tws_moves.specs.Spelling.{moves_in}
use Rattle.tws_moves.proofs.Spellings.{moves_in_spelled}
use Rattle.tws_file.specs.Text.{Solution}
use Rattle.tws_tables.specs.Listing.{move_line}
use Rattle.byte_output.specs.Output.{Sends}
use Rattle.tws_tables.specs.Steps.{SendsSome}
use Rattle.tws_tables.proofs.Pieces.{some_none}
use Rattle.tws_tables.proofs.listing.show_solved.Goals as goal

pub returns-in-Ok-clause-ok : goal.returns-in-Ok-clause-ok
returns-in-Ok-clause-ok g c =
    let shown = c.deref.ensures.value ∙ moves_in_spelled c.as_slice.result.now c.in-Ok.moves.items c.in-Ok.ensures.read ∙
    ap moves_in (c.as_slice.ensures.list ∙ ap (λ (s : Solution). s.moves) c.s.view_is) in
    on_ok_weaker c.show_moves.result
    (λ p. subst (λ (moves : List Move). Sends (g.W.Write.contents c.args.out.now) (g.W.Write.contents c.show_moves.new.out)
    (string_bytes c.args.text.now ++ flat_map move_line moves)
    (string_bytes c.show_moves.new.text)) shown p) c.show_moves.ensures.ok

pub returns-in-Ok-clause-err : goal.returns-in-Ok-clause-err
returns-in-Ok-clause-err g c =
    let shown = c.deref.ensures.value ∙ moves_in_spelled c.as_slice.result.now c.in-Ok.moves.items c.in-Ok.ensures.read ∙
    ap moves_in (c.as_slice.ensures.list ∙ ap (λ (s : Solution). s.moves) c.s.view_is) in
    on_err_weaker c.show_moves.result
    (λ p. subst (λ (moves : List Move). SendsSome (g.W.Write.contents c.args.out.now)
    (g.W.Write.contents c.show_moves.new.out)
    (string_bytes c.args.text.now ++ flat_map move_line moves)) shown p) c.show_moves.ensures.err

pub returns-in-Err-Memory-clause-err : goal.returns-in-Err-Memory-clause-err
returns-in-Err-Memory-clause-err g c = some_none _ _

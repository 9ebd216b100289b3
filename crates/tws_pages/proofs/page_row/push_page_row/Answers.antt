use Rattle.std.proofs.Common.{◌∙◌, ◌++◌, ap, sym, length, string_bytes}
use Rattle.std.proofs.lemmas.Result.{on_ok_weaker}
use Rattle.tws_moves.specs.Spelling.{moves_in}
use Rattle.tws_file.specs.Solution.{solution_of}
use Rattle.tws_file.specs.Text.{Solution}
use Rattle.tws_pages.specs.Page.{page_row}
use Rattle.tws_pages.proofs.Parts.{row_written}
use Rattle.tws_pages.proofs.page_row.push_page_row.Goals as goal

pub returns : goal.returns
returns g c =
    let s = solution_of c.s.inside in
    let old = string_bytes c.args.text.now in
    let moves-is = c.move_count.ensures ∙ sym (ap (λ (x : Solution). length (moves_in x.moves)) c.s.view_is) in
    on_ok_weaker c.push_move_cells.result
    (λ p. row_written s old (string_bytes c.push_level_cells.new.text) (string_bytes c.push_time_cells.new.text) (string_bytes c.push_move_cells.new.text)
    c.move_count.result c.len.result moves-is c.len.ensures c.in_ok-push_level_cells.ensures c.in_ok-push_time_cells.ensures p ∙
    ap (λ (x : Solution). old ++ page_row x) c.s.view_is) c.push_move_cells.ensures

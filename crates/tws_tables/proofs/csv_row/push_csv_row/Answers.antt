use Rattle.std.proofs.Common.{◌∙◌, ◌++◌, ap, sym, length, string_bytes}
use Rattle.std.proofs.lemmas.Result.{on_ok_weaker}
use Rattle.tws_moves.specs.Spelling.{moves_in}
use Rattle.tws_file.specs.Solution.{solution_of}
use Rattle.tws_file.specs.Text.{Solution}
use Rattle.tws_tables.specs.Csv.{csv_fields, csv_line}
use Rattle.tws_tables.proofs.Parts.{csv_written}
use Rattle.tws_tables.proofs.csv_row.push_csv_row.Goals as goal

pub returns : goal.returns
returns g c =
    let rules = c.args.ruleset in
    let s = solution_of c.s.inside in
    let old = string_bytes c.args.text.now in
    let moves-is = c.move_count.ensures ∙ sym (ap (λ (x : Solution). length (moves_in x.moves)) c.s.view_is) in
    on_ok_weaker c.push_details.result
    (λ p. csv_written rules s old (string_bytes c.push_level.new.text) (string_bytes c.push_lengths.new.text) (string_bytes c.push_details.new.text)
    c.move_count.result c.len.result moves-is c.len.ensures c.in_ok-push_level.ensures c.in_ok-push_lengths.ensures p ∙
    ap (λ (x : Solution). old ++ csv_line (csv_fields rules x)) c.s.view_is) c.push_details.ensures

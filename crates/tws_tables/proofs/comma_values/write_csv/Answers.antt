use Rattle.std.proofs.Common.{List, ℕ, ◌++◌, ◌∙◌, ap, subst}
use Rattle.std.proofs.lemmas.Result.{on_ok_weaker, on_err_weaker}
use Rattle.std.specs.Io.KnownBytes.{Appends}
use Rattle.byte_output.specs.Output.{AppendsPrefix}
use Rattle.tws_file.specs.Text.{Record}
use Rattle.tws_file.specs.TwsFile.{file_of}
use Rattle.tws_tables.specs.Csv.{csv_fields, csv_line, csv_names, csv_of}
use Rattle.tws_tables.specs.Solved.{rows_by, solutions_in}
use Rattle.tws_tables.proofs.Wholes.{lines_of_map}
use Rattle.tws_tables.proofs.comma_values.write_csv.Goals as goal

pub returns-clause-ok : goal.returns-clause-ok
returns-clause-ok g c =
    let file = file_of c.file.inside in
    let text-is = ap (λ (rs : List Record). csv_line csv_names ++ rows_by (λ s. csv_line (csv_fields file.ruleset s)) rs) c.as_slice-records.ensures ∙
    ap (λ (xs : List ℕ). csv_line csv_names ++ xs) (lines_of_map csv_line (csv_fields file.ruleset) (solutions_in file.records)) ∙
    ap csv_of c.file.view_is in
    on_ok_weaker c.write_parts.result
    (λ p. subst (λ (text : List ℕ). Appends (g.W.Write.contents c.args.out.now) (g.W.Write.contents c.write_parts.new.out) text) text-is p) c.write_parts.ensures.ok

pub returns-clause-err : goal.returns-clause-err
returns-clause-err g c =
    let file = file_of c.file.inside in
    let text-is = ap (λ (rs : List Record). csv_line csv_names ++ rows_by (λ s. csv_line (csv_fields file.ruleset s)) rs) c.as_slice-records.ensures ∙
    ap (λ (xs : List ℕ). csv_line csv_names ++ xs) (lines_of_map csv_line (csv_fields file.ruleset) (solutions_in file.records)) ∙
    ap csv_of c.file.view_is in
    on_err_weaker c.write_parts.result
    (λ p. subst (λ (text : List ℕ). AppendsPrefix (g.W.Write.contents c.args.out.now) (g.W.Write.contents c.write_parts.new.out) text) text-is p) c.write_parts.ensures.err

use Rattle.std.proofs.Common.{ap, ◌∙◌}
use Rattle.tws_file.specs.Text.{File}
use Rattle.tws_file.specs.Record.{records_of}
use Rattle.std.proofs.lemmas.Result.{IfOk-weaker}
use Rattle.tws_compare.proofs.Loading.{rows_are}
use Rattle.tws_compare.proofs.comparing.rows_between.Goals as goal

pub returns : goal.returns
returns g c =
    let mine = c.as_slice.ensures ∙ ap (λ (f : File). f.records) c.mine.view_is in
    let theirs = c.as_slice-2.ensures ∙ ap (λ (f : File). f.records) c.theirs.view_is in
    IfOk-weaker c.rows_at.result _ _
    (λ rows is. rows_are c.args.mine.now c.args.theirs.now (records_of c.as_slice.result.now)
    (records_of c.as_slice-2.result.now) c.in_ok-sides.sides c.in_ok-keys.keys.items
    c.deref.result.now rows.items mine theirs c.in_ok-sides.ensures c.in_ok-keys.ensures c.deref.ensures.value is) c.rows_at.ensures

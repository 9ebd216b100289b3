use Rattle.std.proofs.Common.{string_bytes}
use Rattle.byte_output.proofs.Sending.{Sends-none, at_err, prefix_sent}
use Rattle.tws_tables.proofs.rows.send_row.Goals as goal

pub returns-in_err-push_row-clause-err : goal.returns-in_err-push_row-clause-err
returns-in_err-push_row-clause-err g c =
    let old = g.W.Write.contents c.args.out.now in
    let start = string_bytes c.args.text.now in
    let row = g.F.RowFormat.row_text c.args.format.now c.args.solution.now in
    at_err c.from_residual.result (prefix_sent old old old start start (Sends-none old start) row c.push_row.ensures.some)

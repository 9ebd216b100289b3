use Rattle.std.proofs.Common.{◌++◌, ◌∙◌, codes}
use Rattle.std.proofs.lemmas.Result.{on_err_weaker, on_ok_weaker}
use Rattle.tws_file.specs.Words.{line}
use Rattle.byte_output.proofs.Sending.{at_err, first_alone, prefix_in_turn}
use Rattle.show_commands.specs.Show.{name_of, shown_text}
use Rattle.show_commands.proofs.Showing.{both_written, line_unwritten}
use Rattle.show_commands.proofs.show_files.show_later.Goals as goal

pub returns-in_err-line-clause-err : goal.returns-in_err-line-clause-err
returns-in_err-line-clause-err g c =
    at_err c.from_residual.result (line_unwritten (g.W.Write.contents c.args.out.now) (name_of c.args.source.now) (shown_text c.args.arguments.now c.args.file.now))

pub returns-in_err-put-clause-err : goal.returns-in_err-put-clause-err
returns-in_err-put-clause-err g c =
    let new = g.W.Write.contents c.put.new.out in
    at_err c.from_residual-in_err-put.result
    (first_alone (g.W.Write.contents c.args.out.now) new new (line (codes "file " ++ name_of c.args.source.now)) (shown_text c.args.arguments.now c.args.file.now)
    c.as_bytes.result.now (c.as_bytes.ensures.value ∙ c.in_ok-line.ensures) c.in_err-put.ensures.err)

pub returns-clause-ok : goal.returns-clause-ok
returns-clause-ok g c =
    on_ok_weaker c.show_file.result
    (both_written (g.W.Write.contents c.args.out.now) (g.W.Write.contents c.put.new.out) (g.W.Write.contents c.show_file.new.out)
    (line (codes "file " ++ name_of c.args.source.now)) (shown_text c.args.arguments.now c.args.file.now)
    c.as_bytes.result.now (c.as_bytes.ensures.value ∙ c.in_ok-line.ensures) c.in_ok-put.ensures.ok)
    c.show_file.ensures.ok

pub returns-clause-err : goal.returns-clause-err
returns-clause-err g c =
    on_err_weaker c.show_file.result
    (prefix_in_turn (g.W.Write.contents c.args.out.now) (g.W.Write.contents c.put.new.out) (g.W.Write.contents c.show_file.new.out)
    (line (codes "file " ++ name_of c.args.source.now)) (shown_text c.args.arguments.now c.args.file.now)
    c.as_bytes.result.now (c.as_bytes.ensures.value ∙ c.in_ok-line.ensures) c.in_ok-put.ensures.ok)
    c.show_file.ensures.err

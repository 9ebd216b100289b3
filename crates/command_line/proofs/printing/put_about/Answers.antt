use Rattle.std.proofs.Common.{[], ◌∷◌, ◌++◌, codes, refl}
use Rattle.std.proofs.lemmas.Result.{on_err_weaker}
use Rattle.byte_output.proofs.Sending.{at_err}
use Rattle.command_line.proofs.Lines.{cut_between, cut_early, cut_late}
use Rattle.command_line.proofs.printing.put_about.Goals as goal

pub returns-in_err-put_two-clause-err : goal.returns-in_err-put_two-clause-err
returns-in_err-put_two-clause-err g c =
    let new = g.E.Write.contents c.put_two.new.errors in
    at_err c.from_residual.result
    (cut_early (g.E.Write.contents c.args.errors.now) new new (codes "tws: ") c.args.name.now (codes ": ") (c.args.words.now ++ 10 ∷ []) (codes ": ") refl c.in_err-put_two.ensures.err)

pub returns-in_err-put-clause-err : goal.returns-in_err-put-clause-err
returns-in_err-put-clause-err g c =
    at_err c.from_residual-in_err-put.result
    (cut_between (g.E.Write.contents c.args.errors.now) (g.E.Write.contents c.put_two.new.errors) (g.E.Write.contents c.put.new.out) (codes "tws: ") c.args.name.now (codes ": ") (c.args.words.now ++ 10 ∷ [])
    c.as_bytes.result.now c.as_bytes.ensures.value c.in_ok-put_two.ensures.ok c.in_err-put.ensures.err)

pub returns-clause-err : goal.returns-clause-err
returns-clause-err g c =
    on_err_weaker c.put_two-2.result
    (cut_late (g.E.Write.contents c.args.errors.now) (g.E.Write.contents c.put_two.new.errors) (g.E.Write.contents c.put_two-2.new.errors) (codes "tws: ") c.args.name.now (codes ": ") (c.args.words.now ++ 10 ∷ [])
    c.as_bytes.result.now c.as_bytes.ensures.value (g.E.Write.contents c.put.new.out) c.in_ok-put_two.ensures.ok c.in_ok-put.ensures.ok)
    c.put_two-2.ensures.err

use Rattle.std.proofs.Common.{ap, subst, ◌∙◌}
use Rattle.std.proofs.lemmas.Result.{err_from_is_err_and}
use Rattle.byte_output.specs.Output.{AppendsPrefix}
use Rattle.tws_compare.specs.Lines.{comparison_text}
use Rattle.file_commands.proofs.compare.write_comparison.Goals as goal

pub returns-in_err-put-in-Ok-clause-fails : goal.returns-in_err-put-in-Ok-clause-fails
returns-in_err-put-in-Ok-clause-fails g c =
    let p = err_from_is_err_and c.from_residual-in_err-put-in-Ok.result c.from_residual-in_err-put-in-Ok.ensures.1 in
    let text = c.as_bytes.ensures.value ∙ c.in_ok-text-in-Ok.ensures ∙ ap comparison_text (c.deref.ensures.value ∙ c.in-Ok.ensures.rows) in
    rw (p.1, p.2, c.in_err-put-in-Ok.ensures.io) (subst (AppendsPrefix (g.W.Write.contents c.args.out.now) (g.W.Write.contents c.put.new.out)) text c.in_err-put-in-Ok.ensures.err)

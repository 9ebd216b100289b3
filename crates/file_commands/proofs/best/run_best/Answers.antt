use Rattle.std.proofs.lemmas.Result.{err_from_is_err_and}
use Rattle.file_commands.proofs.best.run_best.Goals as goal

pub returns-in_err-collection-clause-fails : goal.returns-in_err-collection-clause-fails
returns-in_err-collection-clause-fails g c =
    let p = err_from_is_err_and c.from_residual.result c.from_residual.ensures.1 in
    rw (p.1, p.2) (c.in_err-collection.ensures.fails (g.W.Write.contents c.args.out.now))

use Rattle.std.proofs.lemmas.Result.{err_from_is_err_and}
use Rattle.file_commands.specs.Compare.{AreTexts}
use Rattle.file_commands.proofs.Comparing.{compare_unsaid, files_compared, files_fail, said_before}
use Rattle.file_commands.proofs.compare.run_compare.Goals as goal

pub returns-clause-compared : goal.returns-clause-compared
returns-clause-compared g c =
    let mine = g.R.Read.remaining c.args.mine.now in
    let theirs = g.R.Read.remaining c.args.theirs.now in
    let texts : AreTexts mine theirs c.in_ok-mine.mine c.in_ok-theirs.theirs = record { mine_is = c.in_ok-mine.ensures.file.text; theirs_is = c.in_ok-theirs.ensures.file.text } in
    files_compared c.args.arguments.now.better mine theirs _ _ c.in_ok-mine.mine c.in_ok-theirs.theirs texts c.write_compared.result c.write_compared.ensures.compared

pub returns-clause-fails : goal.returns-clause-fails
returns-clause-fails g c =
    let mine = g.R.Read.remaining c.args.mine.now in
    let theirs = g.R.Read.remaining c.args.theirs.now in
    let texts : AreTexts mine theirs c.in_ok-mine.mine c.in_ok-theirs.theirs = record { mine_is = c.in_ok-mine.ensures.file.text; theirs_is = c.in_ok-theirs.ensures.file.text } in
    files_fail c.args.arguments.now.better mine theirs _ _ c.in_ok-mine.mine c.in_ok-theirs.theirs texts c.write_compared.result c.write_compared.ensures.fails

pub returns-in_err-say_sets-clause-fails : goal.returns-in_err-say_sets-clause-fails
returns-in_err-say_sets-clause-fails g c =
    let p = err_from_is_err_and c.from_residual-in_err-say_sets.result c.from_residual-in_err-say_sets.ensures.1 in
    let mine = g.R.Read.remaining c.args.mine.now in
    let theirs = g.R.Read.remaining c.args.theirs.now in
    let texts : AreTexts mine theirs c.in_ok-mine.mine c.in_ok-theirs.theirs = record { mine_is = c.in_ok-mine.ensures.file.text; theirs_is = c.in_ok-theirs.ensures.file.text } in
    rw (p.1, p.2) (compare_unsaid c.args.arguments.now.better mine theirs (g.W.Write.contents c.args.out.now) c.in_ok-mine.mine c.in_ok-theirs.theirs texts _ c.in_err-say_sets.ensures.fails)

pub returns-clause-said : goal.returns-clause-said
returns-clause-said g c =
    let mine = g.R.Read.remaining c.args.mine.now in
    let theirs = g.R.Read.remaining c.args.theirs.now in
    let texts : AreTexts mine theirs c.in_ok-mine.mine c.in_ok-theirs.theirs = record { mine_is = c.in_ok-mine.ensures.file.text; theirs_is = c.in_ok-theirs.ensures.file.text } in
    said_before c.write_compared.result (c.in_ok-mine.mine, c.in_ok-theirs.theirs, texts, c.in_ok-say_sets.ensures.said)

use Rattle.std.proofs.Common.{List, sym, subst, map}
use Rattle.std.proofs.lemmas.Result.{err_from_is_err_and}
use Rattle.tws_file.specs.Text.{File}
use Rattle.show_commands.specs.SeveralInputs.{AreFiles}
use Rattle.show_commands.proofs.Showing.{show_fails, shows_files}
use Rattle.show_commands.proofs.show_files.run_files.Goals as goal

pub returns-in_err-show_all-clause-fails : goal.returns-in_err-show_all-clause-fails
returns-in_err-show_all-clause-fails g c =
    let knowns = map (λ input. g.R.Read.remaining input) c.args.inputs.now in
    let are = subst (λ (files : List File). AreFiles knowns files) (sym c.deref-2.ensures.value) c.in_ok-files.ensures.read in
    let p = err_from_is_err_and c.from_residual-in_err-show_all.result c.from_residual-in_err-show_all.ensures.1 in
    let old = g.W.Write.contents c.args.out.now in
    let new = g.W.Write.contents c.show_all.new.out in
    rw (p.1, p.2) (show_fails c.args.arguments.now knowns c.deref.result.now c.deref-2.result.now old new c.deref.ensures.value are c.in_err-show_all.field-0.0 c.in_err-show_all.ensures.err)

pub returns-clause-written : goal.returns-clause-written
returns-clause-written g c =
    let knowns = map (λ input. g.R.Read.remaining input) c.args.inputs.now in
    let are = subst (λ (files : List File). AreFiles knowns files) (sym c.deref-2.ensures.value) c.in_ok-files.ensures.read in
    shows_files c.args.arguments.now knowns c.deref.result.now c.deref-2.result.now (g.W.Write.contents c.args.out.now) (g.W.Write.contents c.show_all.new.out) c.deref.ensures.value are c.in_ok-show_all.ensures.ok

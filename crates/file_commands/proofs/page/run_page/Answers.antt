use Rattle.std.proofs.Common.{ℕ, List, sym, subst, map, string_bytes}
use Rattle.std.specs.Prelude.{option_map}
use Rattle.std.specs.Io.KnownBytes.{Appends}
use Rattle.std.proofs.lemmas.Result.{err_from_is_err_and}
use Rattle.byte_output.specs.Output.{AppendsPrefix}
use Rattle.tws_file.specs.Text.{File}
use Rattle.show_commands.specs.SeveralInputs.{AreFiles}
use Rattle.file_commands.proofs.Paging.{page_fails, same_page}
use Rattle.file_commands.proofs.page.run_page.Goals as goal

pub returns-in_err-write_page_by-clause-fails : goal.returns-in_err-write_page_by-clause-fails
returns-in_err-write_page_by-clause-fails g c =
    let knowns = map (λ input. g.R.Read.remaining input) c.args.inputs.now in
    let are = subst (λ (files : List File). AreFiles knowns files) (sym c.deref.ensures.value) c.in_ok-files.ensures.read in
    let p = err_from_is_err_and c.from_residual-in_err-write_page_by.result c.from_residual-in_err-write_page_by.ensures.1 in
    let old = g.W.Write.contents c.args.out.now in
    let new = g.W.Write.contents c.write_page_by.new.out in
    let title = option_map string_bytes c.args.title.now in
    let levels = option_map (λ levels. levels.items) c.args.levels.now in
    let files = c.deref.result.now in
    let part = subst (λ (text : List ℕ). AppendsPrefix old new text) (same_page _ title _ levels files c.lent.ensures c.lent_levels.ensures) c.in_err-write_page_by.ensures.err in
    rw (p.1, p.2) (page_fails title levels c.in_err-write_page_by.field-0.0 knowns files old new are part)

pub returns-clause-written : goal.returns-clause-written
returns-clause-written g c =
    let knowns = map (λ input. g.R.Read.remaining input) c.args.inputs.now in
    let are = subst (λ (files : List File). AreFiles knowns files) (sym c.deref.ensures.value) c.in_ok-files.ensures.read in
    let old = g.W.Write.contents c.args.out.now in
    let new = g.W.Write.contents c.write_page_by.new.out in
    let title = option_map string_bytes c.args.title.now in
    let levels = option_map (λ levels. levels.items) c.args.levels.now in
    let files = c.deref.result.now in
    (files, are, subst (λ (text : List ℕ). Appends old new text) (same_page _ title _ levels files c.lent.ensures c.lent_levels.ensures) c.in_ok-write_page_by.ensures.ok)

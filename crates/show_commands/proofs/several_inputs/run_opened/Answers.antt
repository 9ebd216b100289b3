use Rattle.std.proofs.Common.{◌≡◌, ◌∙◌, ℕ, List, Option, Some, map, OnOk, IfErr, ap, sym, subst}
use Rattle.either.specs.Either.{either}
use Rattle.command_line.specs.Inputs.{knowns_of}
use Rattle.show_commands.specs.Opening.{left_of}
use Rattle.show_commands.specs.SeveralInputs.{FilesFail, FilesRan}
use Rattle.show_commands.proofs.Collecting.{files_ran}
use Rattle.show_commands.proofs.several_inputs.run_opened.Goals as goal

pub returns-in-Ok-clause-ran : goal.returns-in-Ok-clause-ran
returns-in-Ok-clause-ran g c =
    let old = g.W.Write.contents c.args.out.now in
    let new = g.W.Write.contents c.run_over-done.new.out in
    let writes = g.C.SeveralInputsCommand.writes c.args.command.now in
    let prefix = g.C.SeveralInputsCommand.«prefix» c.args.command.now in
    let knowns = knowns_of (g.S.FileSystem.bytes_of c.args.system.now) (Some c.args.standard.now) c.args.sources.now in
    let done = c.run_over-done.result in
    let same : map (either (λ file. left_of (λ f. g.S.File.Read.remaining f) (g.S.FileSystem.bytes_of file.system.now file.name.now) file.stage) (λ bytes. Some bytes.now)) c.deref_mut.result.now ≡ knowns =
    ap (λ xs. map (either (λ file. left_of (λ f. g.S.File.Read.remaining f) (g.S.FileSystem.bytes_of file.system.now file.name.now) file.stage) (λ bytes. Some bytes.now)) xs) c.deref_mut.ensures.value ∙ c.in-Ok.ensures.opened in
    let whole = subst (λ (ks : List (Option (List ℕ))). OnOk done (writes ks old new)) same c.run_over-done.ensures.written in
    let fails = subst (λ (ks : List (Option (List ℕ))). IfErr done (FilesFail (prefix ks old new) ks old new)) same c.run_over-done.ensures.fails in
    subst (λ (n : ℕ). FilesRan (writes knowns old new) (prefix knowns old new) knowns n old new) (sym c.finish_among.ensures.status)
    (files_ran (writes knowns old new) (prefix knowns old new) knowns done old new whole fails)

use Rattle.std.proofs.Common.{◌≡◌, List, arith, subst}
use Rattle.command_line.specs.declared.source.Source.{Source}
use Rattle.show_commands.specs.SeveralInputs.{FilesRanFrom}
use Rattle.show_commands.specs.Show.{ShowPrefix, ShowWrites}
use Rattle.show_commands.proofs.Showing.{one_ran, several_ran}
use Rattle.show_commands.proofs.show.run.Goals as goal

pub returns-then-len-eq1-clause-ran : goal.returns-then-len-eq1-clause-ran
returns-then-len-eq1-clause-ran g c =
    one_ran c.args.arguments.now (g.S.FileSystem.bytes_of c.args.system.now) (c.run_one_input.new.input ≡ c.args.input.now) c.run_one_input.result
    (g.R.Read.remaining c.args.input.now) (g.R.Read.remaining c.run_one_input.new.input) (g.W.Write.contents c.args.out.now) (g.W.Write.contents c.run_one_input.new.out)
    c.args.arguments.now.files.items (omega (arith, c.len.ensures, c.if-len-eq1.true, c.args.arguments.now.files.ok.0)) c.index.result.now c.index.ensures c.run_one_input.ensures.ran

pub returns-clause-ran : goal.returns-clause-ran
returns-clause-ran g c =
    let bytes_of = g.S.FileSystem.bytes_of c.args.system.now in
    let Unread = c.run_several_inputs.new.input ≡ c.args.input.now in
    let had = g.R.Read.remaining c.args.input.now in
    let left = g.R.Read.remaining c.run_several_inputs.new.input in
    let old = g.W.Write.contents c.args.out.now in
    let new = g.W.Write.contents c.run_several_inputs.new.out in
    let arguments = c.args.arguments.now in
    several_ran arguments bytes_of Unread c.run_several_inputs.result had left old new
    arguments.files.items (omega (arith, c.len.ensures, c.if-len-eq1.false, arguments.files.ok.0))
    (subst (λ (sources : List Source). FilesRanFrom sources bytes_of Unread (ShowWrites arguments) (ShowPrefix arguments) c.run_several_inputs.result had left old new)
    c.deref.ensures.value c.run_several_inputs.ensures.ran)

use Rattle.std.proofs.Common.{arith, sym, subst}
use Rattle.std.specs.List.{zip}
use Rattle.std.specs.Io.KnownBytes.{Appends}
use Rattle.byte_output.proofs.Sending.{Appends-nil, at_err}
use Rattle.show_commands.specs.Show.{files_text, later_text}
use Rattle.show_commands.proofs.Showing.{all_written, first_cut, first_written, no_text, one_cut, one_more}
use Rattle.show_commands.proofs.show_files.show_all.Goals as goal

pub returns-then-count-eq0-clause-ok : goal.returns-then-count-eq0-clause-ok
returns-then-count-eq0-clause-ok g c =
    let none = no_text c.args.arguments.now c.args.sources.now c.args.files.now (omega (arith, c.if-count-eq0.true, c.min-count.ensures)) in
    subst (Appends (g.W.Write.contents c.args.out.now) (g.W.Write.contents c.args.out.now)) (sym none) (Appends-nil (g.W.Write.contents c.args.out.now))

pub returns-in_err-show_file-clause-err : goal.returns-in_err-show_file-clause-err
returns-in_err-show_file-clause-err g c =
    at_err c.from_residual.result
    (first_cut c.args.arguments.now c.args.sources.now c.args.files.now c.index-files-0.result (omega (arith, c.if-count-eq0.false, c.min-count.ensures)) (omega (arith, c.if-count-eq0.false, c.min-count.ensures)) c.index-files-0.is
    (g.W.Write.contents c.args.out.now) (g.W.Write.contents c.show_file.new.out) c.in_err-show_file.ensures.err)

pub loop-index-init : goal.loop-index-init
loop-index-init g c =
    first_written c.args.arguments.now c.args.sources.now c.args.files.now c.index-files-0.result (omega (arith, c.if-count-eq0.false, c.min-count.ensures)) (omega (arith, c.if-count-eq0.false, c.min-count.ensures)) c.index-files-0.is
    (g.W.Write.contents c.args.out.now) (g.W.Write.contents c.show_file.new.out) c.in_ok-show_file.ensures.ok

pub returns-in_err-show_later-clause-err : goal.returns-in_err-show_later-clause-err
returns-in_err-show_later-clause-err g c =
    at_err c.from_residual-in_err-show_later.result
    (one_cut (later_text c.args.arguments.now) c.args.sources.now c.args.files.now (files_text c.args.arguments.now (zip c.args.sources.now c.args.files.now))
    (g.W.Write.contents c.args.out.now) (g.W.Write.contents c.loop-index.out) (g.W.Write.contents c.show_later.new.out) c.loop-index.index
    c.index-sources-index.result c.index-files-index.result (omega (arith, c.loop-index-test.true, c.min-count.ensures)) (omega (arith, c.loop-index-test.true, c.min-count.ensures))
    c.index-sources-index.is c.index-files-index.is c.loop-index.invariant c.in_err-show_later.ensures.err)

pub loop-index-preserved : goal.loop-index-preserved
loop-index-preserved g c =
    one_more (later_text c.args.arguments.now) c.args.sources.now c.args.files.now (files_text c.args.arguments.now (zip c.args.sources.now c.args.files.now))
    (g.W.Write.contents c.args.out.now) (g.W.Write.contents c.loop-index.out) (g.W.Write.contents c.show_later.new.out) c.loop-index.index
    c.index-sources-index.result c.index-files-index.result (omega (arith, c.loop-index-test.true, c.min-count.ensures)) (omega (arith, c.loop-index-test.true, c.min-count.ensures))
    c.index-sources-index.is c.index-files-index.is c.loop-index.invariant c.in_ok-show_later.ensures.ok

pub returns-clause-ok : goal.returns-clause-ok
returns-clause-ok g c =
    all_written (later_text c.args.arguments.now) c.args.sources.now c.args.files.now (files_text c.args.arguments.now (zip c.args.sources.now c.args.files.now))
    (g.W.Write.contents c.args.out.now) (g.W.Write.contents c.loop-index.out) c.loop-index.index (omega (arith, c.min-count.ensures)) c.loop-index.invariant

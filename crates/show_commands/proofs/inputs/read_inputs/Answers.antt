use Rattle.std.proofs.Common.{ℕ, List, Option, arith, sym, subst, map, take, IfSome}
use Rattle.std.proofs.lemmas.Result.{err_from_is_err_and}
use Rattle.tws_file.specs.Text.{IsText}
use Rattle.command_line.specs.Faults.{ReadFails}
use Rattle.show_commands.proofs.Collecting.{all_files, are_readable, files_more, input_fails, known_more, one_more_ended, others_stay, read_out, set_count}
use Rattle.show_commands.proofs.inputs.read_inputs.Goals as goal

pub returns-in_err-file-clause-fails : goal.returns-in_err-file-clause-fails
returns-in_err-file-clause-fails g c =
    let p = err_from_is_err_and c.from_residual.result c.from_residual.ensures.1 in
    let before = c.loop-index in
    let reported : g.row.R.Denot → Option (List ℕ) = λ input. g.R.Read.remaining input in
    let fault = subst (λ input. ReadFails before.index (g.R.Read.remaining input) c.in_err-file.field-0.0) (sym c.index-inputs-index.is) c.in_err-file.ensures.fault in
    rw (p.1, p.2) (input_fails reported before.inputs c.args.inputs.now before.index c.index-inputs-index.result before.invariant.others c.loop-index-test.true c.index-inputs-index.is _
    (λ texts are. are_readable (map reported (take before.index c.args.inputs.now)) before.files.items texts before.invariant.so_far are) fault)

pub returns-in_err-file-clause-unreadable : goal.returns-in_err-file-clause-unreadable
returns-in_err-file-clause-unreadable g c =
    let p = err_from_is_err_and c.from_residual.result c.from_residual.ensures.1 in
    let before = c.loop-index in
    let reported : g.row.R.Denot → Option (List ℕ) = λ input. g.R.Read.remaining input in
    rw (p.1, p.2) (read_out reported before.inputs before.index c.read_input.new.input _ _
    (omega (arith, c.loop-index-test.true, before.invariant.count)) before.invariant.ended c.in_err-file.ensures.fault c.in_err-file.ensures.unreadable)

pub loop-index-preserved : goal.loop-index-preserved
loop-index-preserved g c =
    let before = c.loop-index in
    let inside = c.loop-index-test.true in
    let reported : g.row.R.Denot → Option (List ℕ) = λ input. g.R.Read.remaining input in
    let knowns = map reported (take before.index c.args.inputs.now) in
    let file = c.in_ok-file.file in
    let text = subst (λ input. IfSome (g.R.Read.remaining input) (λ bytes. IsText bytes file)) (sym c.index-inputs-index.is) c.in_ok-file.ensures.file.text in
    let more = files_more knowns before.files.items c.push.new.self.items (reported c.index-inputs-index.result) file before.invariant.so_far text c.in_ok-push.ensures.items in
    record {
      count = set_count before.inputs c.args.inputs.now before.index c.read_input.new.input before.invariant.count;
      others = others_stay before.inputs c.args.inputs.now before.index c.read_input.new.input before.invariant.others;
      ended = one_more_ended reported before.inputs before.index c.read_input.new.input (omega (arith, inside, before.invariant.count)) before.invariant.ended c.in_ok-file.ensures.file.ended;
      so_far = rw (known_more reported before.inputs c.args.inputs.now before.index c.index-inputs-index.result before.invariant.others inside c.index-inputs-index.is) more;
    }

pub returns-clause-read : goal.returns-clause-read
returns-clause-read g c =
    let before = c.loop-index in
    all_files _ (λ input. g.R.Read.remaining input) c.args.inputs.now before.index before.files.items (omega (arith, before.invariant.count)) before.invariant.so_far

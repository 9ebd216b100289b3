use Rattle.std.proofs.Common.{ℕ, List, Option, arith, refl, sym, subst, map, take, IfSome}
use Rattle.std.proofs.lemmas.Result.{err_from_is_err_and}
use Rattle.tws_file.specs.Text.{IsText}
use Rattle.command_line.specs.Faults.{ReadFails}
use Rattle.show_commands.proofs.Collecting.{input_fails, known_more, one_more_ended, others_stay, read_out, set_count}
use Rattle.file_commands.proofs.Noting.{all_noted, known_count, noted_more, noted_none, rules_few, sets_few}
use Rattle.file_commands.proofs.Collecting.{all_collected, collects_more, collects_none}
use Rattle.file_commands.proofs.best.collect.Goals as goal

pub loop-index-init : goal.loop-index-init
loop-index-init g c = record {
  count = refl;
  others = refl;
  ended = tt;
  rules_few = omega (arith, c.requires.rules);
  sets_few = omega (arith, c.requires.sets);
  noted = noted_none c.args.ruleset c.args.sources.now c.args.named c.args.notes.now;
  so_far = collects_none c.args.ruleset c.new-collection.result c.new-collection.ensures.rules c.new-collection.ensures.empty;
}

pub returns-in_err-file-clause-fails : goal.returns-in_err-file-clause-fails
returns-in_err-file-clause-fails g c =
    let p = err_from_is_err_and c.from_residual.result c.from_residual.ensures.1 in
    let before = c.loop-index in
    let reported : g.row.R.Denot → Option (List ℕ) = λ file. g.R.Read.remaining file in
    let fault = subst (λ file. ReadFails before.index (g.R.Read.remaining file) c.in_err-file.field-0.0) (sym c.index-files-index.is) c.in_err-file.ensures.fault in
    rw (p.1, p.2) (input_fails reported before.files c.args.files.now before.index c.index-files-index.result before.invariant.others c.loop-index-test.true c.index-files-index.is _ before.invariant.so_far.readable fault)

pub returns-in_err-file-clause-unreadable : goal.returns-in_err-file-clause-unreadable
returns-in_err-file-clause-unreadable g c =
    let p = err_from_is_err_and c.from_residual.result c.from_residual.ensures.1 in
    let before = c.loop-index in
    let reported : g.row.R.Denot → Option (List ℕ) = λ file. g.R.Read.remaining file in
    rw (p.1, p.2) (read_out reported before.files before.index c.read_input.new.input _ _
    (omega (arith, c.loop-index-test.true, before.invariant.count)) before.invariant.ended c.in_err-file.ensures.fault c.in_err-file.ensures.unreadable)

pub loop-index-preserved : goal.loop-index-preserved
loop-index-preserved g c =
    let before = c.loop-index in
    let inside = c.loop-index-test.true in
    let reported : g.row.R.Denot → Option (List ℕ) = λ file. g.R.Read.remaining file in
    let knowns = map reported (take before.index c.args.files.now) in
    let text = subst (λ file. IfSome (g.R.Read.remaining file) (λ bytes. IsText bytes c.in_ok-file.file)) (sym c.index-files-index.is) c.in_ok-file.ensures.file.text in
    let merged = c.merge.new.self in
    let more = collects_more c.args.ruleset knowns
    (reported c.index-files-index.result) c.in_ok-file.file before.collection merged before.invariant.so_far text c.merge.ensures.rules c.in_ok-merge.ensures.best in
    let noted = noted_more c.args.ruleset c.args.sources.now c.args.named c.args.notes.now before.notes c.add.new.self knowns (reported c.index-files-index.result) c.in_ok-file.file before.index
    (known_count reported c.args.files.now before.index inside) before.invariant.noted text c.in_ok-add.ensures in
    record {
      count = set_count before.files c.args.files.now before.index c.read_input.new.input before.invariant.count;
      others = others_stay before.files c.args.files.now before.index c.read_input.new.input before.invariant.others;
      ended = one_more_ended reported before.files before.index c.read_input.new.input (omega (arith, inside, before.invariant.count)) before.invariant.ended c.in_ok-file.ensures.file.ended;
      rules_few = rules_few _ c.args.ruleset before.notes c.add.new.self _ c.in_ok-file.file before.index c.in_ok-add.ensures before.invariant.rules_few;
      sets_few = sets_few _ c.args.ruleset before.notes c.add.new.self _ c.in_ok-file.file before.index c.in_ok-add.ensures before.invariant.sets_few;
      noted = rw (known_more reported before.files c.args.files.now before.index c.index-files-index.result before.invariant.others inside c.index-files-index.is) noted;
      so_far = rw (known_more reported before.files c.args.files.now before.index c.index-files-index.result before.invariant.others inside c.index-files-index.is) more;
    }

pub returns-clause-collected : goal.returns-clause-collected
returns-clause-collected g c =
    let before = c.loop-index in
    all_collected _ (λ file. g.R.Read.remaining file) c.args.files.now before.index c.args.ruleset before.collection (omega (arith, before.invariant.count)) before.invariant.so_far

pub returns-clause-noted : goal.returns-clause-noted
returns-clause-noted g c =
    let before = c.loop-index in
    all_noted c.args.ruleset c.args.sources.now c.args.named c.args.notes.now (λ file. g.R.Read.remaining file) c.args.files.now before.index before.notes (omega (arith, before.invariant.count)) before.invariant.noted

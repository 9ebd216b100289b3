use Rattle.std.proofs.Common.{List, ℕ, sym, subst, ◌∙◌}
use Rattle.std.specs.Io.KnownBytes.{Appends}
use Rattle.std.proofs.lemmas.Result.{on_ok_weaker}
use Rattle.archive_history.proofs.Passing.{HasPassed, passed_all, passed_more, passed_none}
use Rattle.archive_history.proofs.kept_text.write_kept.Goals as goal

pub loop-size-init : goal.loop-size-init
loop-size-init g c =
    let contents = g.W.Write.contents c.args.out.now in
    subst (HasPassed contents contents c.new-buffer.result c.args.file.now 0) (sym c.header_length-at.ensures) (passed_none contents c.new-buffer.result c.args.file.now c.new-buffer.ensures)

pub loop-size-preserved : goal.loop-size-preserved
loop-size-preserved g c =
    let contents = g.W.Write.contents in
    passed_more (contents c.args.out.now) (contents c.loop-size.out) (contents c.pass_record.new.out) c.loop-size.buffer c.pass_record.new.buffer c.args.file.now c.loop-size.begun c.loop-size.at
    c.in-Some.size c.in_ok-begun.begun (sym c.record_length.ensures ∙ c.in-Some.is) c.in_ok-begun.ensures.begins c.loop-size.invariant c.in_ok-begun.ensures.passes

pub returns : goal.returns
returns g c =
    let contents = g.W.Write.contents in
    on_ok_weaker c.put.result
    (λ appends.
    passed_all (contents c.args.out.now) (contents c.loop-size.out) (contents c.send_range.new.out) (contents c.put.new.out) c.loop-size.buffer c.send_range.new.buffer c.args.file.now
    c.loop-size.begun c.loop-size.at c.length_of-end.result c.length_of-end.ensures (sym c.record_length.ensures ∙ c.in_default.is) c.loop-size.invariant c.in_ok-send_range.ensures
    (subst (λ (xs : List ℕ). Appends (contents c.send_range.new.out) (contents c.put.new.out) xs) c.as_slice.ensures appends))
    c.put.ensures.ok

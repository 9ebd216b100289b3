use Rattle.std.proofs.Common.{◌++◌, string_bytes}
use Rattle.std.proofs.lemmas.Result.{on_ok_weaker, on_err_weaker}
use Rattle.tws_file.specs.Record.{record_of}
use Rattle.tws_tables.specs.Listing.{record_line, move_lines}
use Rattle.byte_output.proofs.Sending.{at_err, first_prefix, both_sent}
use Rattle.tws_tables.proofs.Pieces.{some_none, some_of_prefix}
use Rattle.tws_tables.proofs.listing.show_record.Goals as goal

pub returns-in_err-push_record-clause-err : goal.returns-in_err-push_record-clause-err
returns-in_err-push_record-clause-err g c =
    at_err c.from_residual.result (some_none _ _)

pub returns-in_err-send_if_large-clause-err : goal.returns-in_err-send_if_large-clause-err
returns-in_err-send_if_large-clause-err g c =
    let old = g.W.Write.contents c.args.out.now in
    let new = g.W.Write.contents c.send_if_large.new.out in
    let one = record_of c.args.one.now in
    let pushed = string_bytes c.push_record.new.text in
    at_err c.from_residual-in_err-send_if_large.result
    (some_of_prefix old new (string_bytes c.args.text.now ++ (record_line one ++ move_lines c.args.with_moves one))
    (first_prefix old new new (string_bytes c.args.text.now) (record_line one)
    (move_lines c.args.with_moves one) pushed pushed c.in_ok-push_record.ensures c.in_err-send_if_large.ensures.err))

pub returns-in-Solution-clause-ok : goal.returns-in-Solution-clause-ok
returns-in-Solution-clause-ok g c =
    let old = g.W.Write.contents c.args.out.now in
    let mid = g.W.Write.contents c.send_if_large.new.out in
    let new = g.W.Write.contents c.show_solved.new.out in
    let one = record_of c.args.one.now in
    let start = string_bytes c.args.text.now in
    let pushed = string_bytes c.push_record.new.text in
    let buffer = string_bytes c.send_if_large.new.text in
    let left = string_bytes c.show_solved.new.text in
    on_ok_weaker c.show_solved.result
    (λ p. both_sent old mid new start (record_line one)
    (move_lines c.args.with_moves one) pushed buffer c.in_ok-push_record.ensures c.in_ok-send_if_large.ensures.ok left
    (rw (c.if-with_moves.true, c.in-Solution.is) p)) c.show_solved.ensures.ok

pub returns-in-Solution-clause-err : goal.returns-in-Solution-clause-err
returns-in-Solution-clause-err g c =
    let old = g.W.Write.contents c.args.out.now in
    let mid = g.W.Write.contents c.send_if_large.new.out in
    let new = g.W.Write.contents c.show_solved.new.out in
    let one = record_of c.args.one.now in
    let start = string_bytes c.args.text.now in
    let pushed = string_bytes c.push_record.new.text in
    let buffer = string_bytes c.send_if_large.new.text in
    on_err_weaker c.show_solved.result
    (λ p. (
      p.0,
      both_sent old mid new start (record_line one)
          (move_lines c.args.with_moves one) pushed buffer c.in_ok-push_record.ensures c.in_ok-send_if_large.ensures.ok p.0
          (rw (c.if-with_moves.true, c.in-Solution.is) p.1),
    )) c.show_solved.ensures.err

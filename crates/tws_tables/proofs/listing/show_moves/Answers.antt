use Rattle.std.proofs.Common.{◌+◌, ◌++◌, take, string_bytes}
use Rattle.tws_tables.specs.Listing.{move_line}
use Rattle.byte_output.proofs.Sending.{Sends-then, prefix_then, at_err}
use Rattle.byte_output.proofs.Lines.{prefix_of_all, Sends-of-all, line_gathered}
use Rattle.tws_tables.proofs.Listed.{of_moves, of_moves-append, of_moves-one}
use Rattle.tws_tables.proofs.Pieces.{some_of_prefix}
use Rattle.tws_tables.proofs.listing.show_moves.Goals as goal

pub returns-in_err-push_move-clause-err : goal.returns-in_err-push_move-clause-err
returns-in_err-push_move-clause-err g c =
    let old = g.W.Write.contents c.args.out.now in
    let now = g.W.Write.contents c.loop-one.out in
    at_err c.from_residual.result (
      _,
      Sends-of-all of_moves move_line of_moves-append of_moves-one old now now
          (string_bytes c.args.text.now) c.args.moves.now c.loop-one.one-index (string_bytes c.loop-one.text) c.loop-one.invariant,
    )

pub returns-in_err-send_if_large-clause-err : goal.returns-in_err-send_if_large-clause-err
returns-in_err-send_if_large-clause-err g c =
    let old = g.W.Write.contents c.args.out.now in
    let mid = g.W.Write.contents c.loop-one.out in
    let new = g.W.Write.contents c.send_if_large.new.out in
    let start = string_bytes c.args.text.now in
    let i = c.loop-one.one-index in
    let pushed = string_bytes c.push_move.new.text in
    let gathered = line_gathered of_moves move_line of_moves-append of_moves-one old mid new start c.args.moves.now i
    (string_bytes c.loop-one.text) pushed c.one-item.result c.loop-one.invariant c.loop-one-test.true c.one-item.is c.in_ok-push_move.ensures in
    at_err c.from_residual-in_err-send_if_large.result
    (some_of_prefix old new (start ++ of_moves c.args.moves.now)
    (prefix_of_all of_moves move_line of_moves-append of_moves-one old mid new start c.args.moves.now (i + 1)
    (prefix_then old mid new
    (start ++ of_moves (take (i + 1) c.args.moves.now)) pushed gathered c.in_err-send_if_large.ensures.err)))

pub loop-one-preserved : goal.loop-one-preserved
loop-one-preserved g c =
    let old = g.W.Write.contents c.args.out.now in
    let mid = g.W.Write.contents c.loop-one.out in
    let new = g.W.Write.contents c.send_if_large.new.out in
    let start = string_bytes c.args.text.now in
    let i = c.loop-one.one-index in
    let pushed = string_bytes c.push_move.new.text in
    let gathered = line_gathered of_moves move_line of_moves-append of_moves-one old mid new start c.args.moves.now i
    (string_bytes c.loop-one.text) pushed c.one-item.result c.loop-one.invariant c.loop-one-test.true c.one-item.is c.in_ok-push_move.ensures in
    Sends-then old mid new (start ++ of_moves (take (i + 1) c.args.moves.now)) pushed gathered (string_bytes c.send_if_large.new.text) c.in_ok-send_if_large.ensures.ok

use Rattle.std.proofs.Common.{[], ◌++◌, ◌∙◌, length, refl, string_bytes}
use Rattle.std.proofs.lemmas.Result.{on_ok_weaker, on_err_weaker}
use Rattle.tws_tables.specs.Listing.{header_line, count_line}
use Rattle.byte_output.proofs.Sending.{at_err, all_sent, prefix_then}
use Rattle.tws_tables.proofs.Listed.{of_records}
use Rattle.tws_tables.proofs.Pieces.{none_sent, prefix_of_two, all_gathered}
use Rattle.tws_tables.proofs.listing.show_parts.Goals as goal

pub returns-in_err-push_header-clause-err : goal.returns-in_err-push_header-clause-err
returns-in_err-push_header-clause-err g c =
    let old = g.W.Write.contents c.args.out.now in
    let header = header_line c.args.ruleset c.args.word c.args.extra.now in
    at_err c.from_residual.result (none_sent old old header (of_records c.args.with_moves c.args.records.now) [] header (length c.args.records.now) refl refl)

pub returns-in_err-show_records-clause-err : goal.returns-in_err-show_records-clause-err
returns-in_err-show_records-clause-err g c =
    let old = g.W.Write.contents c.args.out.now in
    let new = g.W.Write.contents c.show_records.new.out in
    let header = header_line c.args.ruleset c.args.word c.args.extra.now in
    at_err c.from_residual-in_err-show_records.result
    (prefix_of_two old new header (of_records c.args.with_moves c.args.records.now) (string_bytes c.new-text.result)
    (string_bytes c.push_header.new.text)
    (length c.args.records.now) c.in_ok-push_header.ensures c.new-text.ensures.bytes c.in_err-show_records.ensures.err)

pub returns-in_err-push_count-clause-err : goal.returns-in_err-push_count-clause-err
returns-in_err-push_count-clause-err g c =
    let old = g.W.Write.contents c.args.out.now in
    let new = g.W.Write.contents c.show_records.new.out in
    let header = header_line c.args.ruleset c.args.word c.args.extra.now in
    at_err c.from_residual-in_err-push_count.result
    (prefix_of_two old new header (of_records c.args.with_moves c.args.records.now) (string_bytes c.new-text.result)
    (string_bytes c.push_header.new.text) (length c.args.records.now) c.in_ok-push_header.ensures c.new-text.ensures.bytes
    (string_bytes c.show_records.new.text, c.in_ok-show_records.ensures.ok))

pub returns-clause-ok : goal.returns-clause-ok
returns-clause-ok g c =
    let old = g.W.Write.contents c.args.out.now in
    let mid = g.W.Write.contents c.show_records.new.out in
    let new = g.W.Write.contents c.put.new.out in
    let header = header_line c.args.ruleset c.args.word c.args.extra.now in
    let body = of_records c.args.with_moves c.args.records.now in
    let last = count_line (length c.args.records.now) in
    let pushed-is = c.as_bytes.ensures.value ∙ c.in_ok-push_count.ensures in
    let gathered = all_gathered old mid header body (string_bytes c.new-text.result) (string_bytes c.push_header.new.text)
    (length c.args.records.now) c.in_ok-push_header.ensures c.new-text.ensures.bytes
    (string_bytes c.show_records.new.text) c.as_bytes.result.now c.in_ok-show_records.ensures.ok pushed-is in
    on_ok_weaker c.put.result (λ p. all_sent old mid new (header ++ body ++ last) c.as_bytes.result.now gathered p) c.put.ensures.ok

pub returns-clause-err : goal.returns-clause-err
returns-clause-err g c =
    let old = g.W.Write.contents c.args.out.now in
    let mid = g.W.Write.contents c.show_records.new.out in
    let new = g.W.Write.contents c.put.new.out in
    let header = header_line c.args.ruleset c.args.word c.args.extra.now in
    let body = of_records c.args.with_moves c.args.records.now in
    let last = count_line (length c.args.records.now) in
    let pushed-is = c.as_bytes.ensures.value ∙ c.in_ok-push_count.ensures in
    let gathered = all_gathered old mid header body (string_bytes c.new-text.result) (string_bytes c.push_header.new.text)
    (length c.args.records.now) c.in_ok-push_header.ensures c.new-text.ensures.bytes
    (string_bytes c.show_records.new.text) c.as_bytes.result.now c.in_ok-show_records.ensures.ok pushed-is in
    on_err_weaker c.put.result (λ p. prefix_then old mid new (header ++ body ++ last) c.as_bytes.result.now gathered p) c.put.ensures.err

use Rattle.std.proofs.Common.{◌++◌, refl, string_bytes}
use Rattle.std.specs.Prelude.{option_copied}
use Rattle.std.proofs.lemmas.Result.{on_ok_weaker, on_err_weaker}
use Rattle.byte_output.proofs.Sending.{at_err}
use Rattle.tws_tables.proofs.Wholes.{whole_failed, whole_written}
use Rattle.tws_pages.specs.Page.{page_end, page_head, page_with}
use Rattle.tws_pages.proofs.Wholes.{all_gathered, last_failed, none_written, of_files, page_end_some, prefix_from_empty, rows_failed, sends_from_empty}
use Rattle.tws_pages.proofs.page.write_page_with.Goals as goal

pub returns-in_err-push_page_head-clause-err : goal.returns-in_err-push_page_head-clause-err
returns-in_err-push_page_head-clause-err g c =
    let old = g.W.Write.contents c.args.out.now in
    let empty = string_bytes c.new-text.result in
    let files = c.args.files.now in
    let title = option_copied c.args.title in
    at_err c.from_residual.result
    (prefix_from_empty old old empty (page_with title files) c.new-text.ensures.bytes
    (none_written old old empty (page_head title) (of_files files) page_end (empty ++ page_head title) refl page_end_some))

pub returns-in_err-send_sections-clause-err : goal.returns-in_err-send_sections-clause-err
returns-in_err-send_sections-clause-err g c =
    let old = g.W.Write.contents c.args.out.now in
    let new = g.W.Write.contents c.send_sections.new.out in
    let empty = string_bytes c.new-text.result in
    let files = c.args.files.now in
    let title = option_copied c.args.title in
    at_err c.from_residual-in_err-send_sections.result
    (prefix_from_empty old new empty (page_with title files) c.new-text.ensures.bytes
    (rows_failed old new empty (page_head title) (of_files files) page_end
    (string_bytes c.push_page_head.new.text) c.in_ok-push_page_head.ensures c.in_err-send_sections.ensures.err))

pub returns-in_err-push_page_end-clause-err : goal.returns-in_err-push_page_end-clause-err
returns-in_err-push_page_end-clause-err g c =
    let old = g.W.Write.contents c.args.out.now in
    let new = g.W.Write.contents c.send_sections.new.out in
    let empty = string_bytes c.new-text.result in
    let files = c.args.files.now in
    let title = option_copied c.args.title in
    at_err c.from_residual-in_err-push_page_end.result
    (prefix_from_empty old new empty (page_with title files) c.new-text.ensures.bytes
    (last_failed old new empty (page_head title) (of_files files) page_end
    (string_bytes c.push_page_head.new.text) c.in_ok-push_page_head.ensures
    (string_bytes c.send_sections.new.text) c.in_ok-send_sections.ensures.ok page_end_some))

pub returns-clause-ok : goal.returns-clause-ok
returns-clause-ok g c =
    let old = g.W.Write.contents c.args.out.now in
    let mid = g.W.Write.contents c.send_sections.new.out in
    let new = g.W.Write.contents c.put.new.out in
    let empty = string_bytes c.new-text.result in
    let files = c.args.files.now in
    let title = option_copied c.args.title in
    let text = string_bytes c.push_page_end.new.text in
    let gathered = sends_from_empty old mid empty (page_with title files) c.new-text.ensures.bytes text
    (all_gathered old mid empty (page_head title) (of_files files) page_end
    (string_bytes c.push_page_head.new.text) c.in_ok-push_page_head.ensures
    (string_bytes c.send_sections.new.text) c.in_ok-send_sections.ensures.ok text c.in_ok-push_page_end.ensures) in
    on_ok_weaker c.put.result (whole_written old mid new (page_with title files) text c.as_bytes.result.now c.as_bytes.ensures.value gathered) c.put.ensures.ok

pub returns-clause-err : goal.returns-clause-err
returns-clause-err g c =
    let old = g.W.Write.contents c.args.out.now in
    let mid = g.W.Write.contents c.send_sections.new.out in
    let new = g.W.Write.contents c.put.new.out in
    let empty = string_bytes c.new-text.result in
    let files = c.args.files.now in
    let title = option_copied c.args.title in
    let text = string_bytes c.push_page_end.new.text in
    let gathered = sends_from_empty old mid empty (page_with title files) c.new-text.ensures.bytes text
    (all_gathered old mid empty (page_head title) (of_files files) page_end
    (string_bytes c.push_page_head.new.text) c.in_ok-push_page_head.ensures
    (string_bytes c.send_sections.new.text) c.in_ok-send_sections.ensures.ok text c.in_ok-push_page_end.ensures) in
    on_err_weaker c.put.result (whole_failed old mid new (page_with title files) text c.as_bytes.result.now c.as_bytes.ensures.value gathered) c.put.ensures.err

use Rattle.std.proofs.Common.{◌++◌, length, refl, string_bytes}
use Rattle.std.specs.Prelude.{option_copied}
use Rattle.std.specs.List.{flat_map}
use Rattle.byte_output.proofs.Sending.{at_err}
use Rattle.tws_file.specs.Record.{records_of}
use Rattle.tws_pages.specs.Page.{page_row, section_head, table_end}
use Rattle.tws_pages.specs.SetName.{first_name}
use Rattle.tws_tables.specs.Solved.{solutions_in, total_ticks}
use Rattle.tws_pages.proofs.Wholes.{all_gathered, head_counted, last_failed, none_written, rows_failed, table_end_some}
use Rattle.tws_pages.proofs.page.send_parts.Goals as goal

pub returns-in_err-push_section_head-clause-err : goal.returns-in_err-push_section_head-clause-err
returns-in_err-push_section_head-clause-err g c =
    let old = g.W.Write.contents c.args.out.now in
    let start = string_bytes c.args.text.now in
    let solutions = solutions_in (records_of c.args.records.now) in
    let head = section_head c.args.ruleset (first_name (records_of c.args.records.now)) (length solutions) (total_ticks solutions) in
    at_err c.from_residual.result (none_written old old start head (flat_map page_row solutions) table_end (start ++ head) refl table_end_some)

pub returns-in_err-send_rows-clause-err : goal.returns-in_err-send_rows-clause-err
returns-in_err-send_rows-clause-err g c =
    let old = g.W.Write.contents c.args.out.now in
    let new = g.W.Write.contents c.send_rows.new.out in
    let start = string_bytes c.args.text.now in
    let solutions = solutions_in (records_of c.args.records.now) in
    let head = section_head c.args.ruleset (first_name (records_of c.args.records.now)) (length solutions) (total_ticks solutions) in
    let pushed = string_bytes c.push_section_head.new.text in
    let pushed-is = head_counted c.args.ruleset start pushed (option_copied c.first_name.result) (first_name (records_of c.args.records.now)) c.of.result.solutions c.of.result.ticks
    (length solutions) (total_ticks solutions) c.first_name.ensures c.of.ensures.solutions c.of.ensures.ticks c.in_ok-push_section_head.ensures in
    at_err c.from_residual-in_err-send_rows.result
    (rows_failed old new start head (flat_map page_row solutions) table_end pushed pushed-is c.in_err-send_rows.ensures.err)

pub returns-in_err-push_table_end-clause-err : goal.returns-in_err-push_table_end-clause-err
returns-in_err-push_table_end-clause-err g c =
    let old = g.W.Write.contents c.args.out.now in
    let new = g.W.Write.contents c.send_rows.new.out in
    let start = string_bytes c.args.text.now in
    let solutions = solutions_in (records_of c.args.records.now) in
    let head = section_head c.args.ruleset (first_name (records_of c.args.records.now)) (length solutions) (total_ticks solutions) in
    let pushed = string_bytes c.push_section_head.new.text in
    let pushed-is = head_counted c.args.ruleset start pushed (option_copied c.first_name.result) (first_name (records_of c.args.records.now)) c.of.result.solutions c.of.result.ticks
    (length solutions) (total_ticks solutions) c.first_name.ensures c.of.ensures.solutions c.of.ensures.ticks c.in_ok-push_section_head.ensures in
    at_err c.from_residual-in_err-push_table_end.result
    (last_failed old new start head (flat_map page_row solutions) table_end pushed pushed-is (string_bytes c.send_rows.new.text) c.in_ok-send_rows.ensures.ok table_end_some)

pub returns-clause-ok : goal.returns-clause-ok
returns-clause-ok g c =
    let old = g.W.Write.contents c.args.out.now in
    let new = g.W.Write.contents c.send_rows.new.out in
    let start = string_bytes c.args.text.now in
    let solutions = solutions_in (records_of c.args.records.now) in
    let head = section_head c.args.ruleset (first_name (records_of c.args.records.now)) (length solutions) (total_ticks solutions) in
    let pushed = string_bytes c.push_section_head.new.text in
    let pushed-is = head_counted c.args.ruleset start pushed (option_copied c.first_name.result) (first_name (records_of c.args.records.now)) c.of.result.solutions c.of.result.ticks
    (length solutions) (total_ticks solutions) c.first_name.ensures c.of.ensures.solutions c.of.ensures.ticks c.in_ok-push_section_head.ensures in
    all_gathered old new start head (flat_map page_row solutions) table_end pushed pushed-is
    (string_bytes c.send_rows.new.text) c.in_ok-send_rows.ensures.ok (string_bytes c.push_table_end.new.text) c.in_ok-push_table_end.ensures

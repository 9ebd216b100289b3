use Rattle.std.proofs.Common.{◌+◌, ◌++◌, take, refl, string_bytes}
use Rattle.byte_output.proofs.Sending.{Sends-then, prefix_then, at_err}
use Rattle.byte_output.proofs.Lines.{prefix_of_all, line_gathered}
use Rattle.tws_pages.specs.Page.{section_of}
use Rattle.tws_pages.proofs.Wholes.{of_files, of_files-append, of_files-one}
use Rattle.tws_pages.proofs.page.send_sections.Goals as goal

pub returns-in_err-send_section-clause-err : goal.returns-in_err-send_section-clause-err
returns-in_err-send_section-clause-err g c =
    let old = g.W.Write.contents c.args.out.now in
    let mid = g.W.Write.contents c.loop-file.out in
    let new = g.W.Write.contents c.send_section.new.out in
    let start = string_bytes c.args.text.now in
    let i = c.loop-file.file-index in
    let files = c.args.files.now in
    let buffer = string_bytes c.loop-file.text in
    let this = c.file-item.result in
    let gathered = line_gathered of_files section_of of_files-append of_files-one old mid new start files i buffer
    (buffer ++ section_of this) this c.loop-file.invariant c.loop-file-test.true c.file-item.is refl in
    at_err c.from_residual.result
    (prefix_of_all of_files section_of of_files-append of_files-one old mid new start files (i + 1)
    (prefix_then old mid new
    (start ++ of_files (take (i + 1) files)) (buffer ++ section_of this) gathered c.in_err-send_section.ensures.err))

pub loop-file-preserved : goal.loop-file-preserved
loop-file-preserved g c =
    let old = g.W.Write.contents c.args.out.now in
    let mid = g.W.Write.contents c.loop-file.out in
    let new = g.W.Write.contents c.send_section.new.out in
    let start = string_bytes c.args.text.now in
    let i = c.loop-file.file-index in
    let files = c.args.files.now in
    let buffer = string_bytes c.loop-file.text in
    let this = c.file-item.result in
    let gathered = line_gathered of_files section_of of_files-append of_files-one old mid new start files i buffer
    (buffer ++ section_of this) this c.loop-file.invariant c.loop-file-test.true c.file-item.is refl in
    Sends-then old mid new (start ++ of_files (take (i + 1) files)) (buffer ++ section_of this) gathered (string_bytes c.send_section.new.text) c.in_ok-send_section.ensures.ok

use Rattle.std.proofs.Common.{◌++◌, take, string_bytes}
use Rattle.byte_output.specs.Output.{Sends}
use Rattle.tws_pages.proofs.Wholes.{of_files}
use Rattle.tws_pages.proofs.page.send_sections.Given as goal

abbrev pub invariant-loop-file : goal.invariant-loop-file
invariant-loop-file g l =
    Sends (g.W.Write.contents l.fn.out) (g.W.Write.contents l.out) (string_bytes l.fn.text ++ of_files (take l.file-index l.files)) (string_bytes l.text)

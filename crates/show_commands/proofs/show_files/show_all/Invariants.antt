use Rattle.std.specs.List.{zip}
use Rattle.byte_output.specs.Output.{Sends}
use Rattle.show_commands.specs.Show.{files_text, later_text}
use Rattle.show_commands.proofs.Showing.{texts_from}
use Rattle.show_commands.proofs.show_files.show_all.Given as goal

-- the first files are written
abbrev pub invariant-loop-index : goal.invariant-loop-index
invariant-loop-index g l =
    Sends (g.W.Write.contents l.fn.out) (g.W.Write.contents l.out) (files_text l.arguments (zip l.sources l.files)) (texts_from (later_text l.arguments) l.sources l.files l.index)

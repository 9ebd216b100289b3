use Rattle.std.proofs.Common.{◌++◌, take, string_bytes}
use Rattle.byte_output.specs.Output.{Sends}
use Rattle.tws_tables.proofs.Listed.{of_moves}
use Rattle.tws_tables.proofs.listing.show_moves.Given as goal

abbrev pub invariant-loop-one : goal.invariant-loop-one
invariant-loop-one g l =
    Sends (g.W.Write.contents l.fn.out) (g.W.Write.contents l.out) (string_bytes l.fn.text ++ of_moves (take l.one-index l.moves)) (string_bytes l.text)

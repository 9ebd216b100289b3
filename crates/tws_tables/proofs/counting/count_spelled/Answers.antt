use Rattle.std.proofs.Common.{length, ap, ◌∙◌}
use Rattle.tws_moves.proofs.Spellings.{moves_in_spelled}
use Rattle.tws_tables.proofs.counting.count_spelled.Goals as goal

pub returns : goal.returns
returns c =
    let counted = c.in-Ok.ensures.counts in
    counted.2 ∙ ap length (moves_in_spelled c.args.bytes.now counted.0 counted.1)

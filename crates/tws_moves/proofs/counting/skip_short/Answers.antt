use Rattle.std.proofs.Common.{arith, List, ℕ, ◌++◌, ◌∙◌, take, length, ap, sym, take-append-drop, length-drop}
use Rattle.std.proofs.lemmas.List.{take_rest}
use Rattle.tws_moves.proofs.Spellings.{counts_singles}
use Rattle.tws_moves.proofs.counting.skip_short.Goals as goal

pub returns-clause-counts : goal.returns-clause-counts
returns-clause-counts c =
    let bytes = c.args.bytes.now in
    let run = c.count_short-run.result.0 in
    counts_singles bytes (take run bytes) _ c.count_short-run.result.1 c.count_short-run.ensures.pieces
    (sym (take-append-drop run bytes) ∙ ap (λ (xs : List ℕ). take run bytes ++ xs) (sym (take_rest bytes run))) c.count_short-run.ensures.count

pub returns-clause-bound : goal.returns-clause-bound
returns-clause-bound c =
    let bytes = c.args.bytes.now in
    let run = c.count_short-run.result.0 in
    omega (arith, c.count_short-run.ensures.bound, c.count_short-run.ensures.within, ap length (take_rest bytes run), length-drop run bytes)

use Rattle.std.proofs.Common.{arith, ℕ, List, length, flat_map, ap, sym, subst, ◌+◌, ◌*◌, ◌∙◌}
use Rattle.std.specs.List.{AllByRecursion}
use Rattle.tws_moves.specs.Spelling.{IsPiece, waits_of}
use Rattle.tws_moves.specs.Steps.{singles}
use lib.Lanes.{chunk}
use Rattle.tws_moves.proofs.Lanes.{threes_within, run_is, run_within, run_short, take_lanes, threes_are}
use Rattle.tws_moves.proofs.counting.count_short.Goals as goal

pub returns-clause-within : goal.returns-clause-within
returns-clause-within c =
    let bytes = c.args.bytes.now in
    let run = c.first_set-run.result in
    run_within bytes c.requires c.type_inv.bytes run (run_is bytes c.requires c.type_inv.bytes run c.first_set-run.ensures)

pub returns-clause-pieces : goal.returns-clause-pieces
returns-clause-pieces c =
    let bytes = c.args.bytes.now in
    let run = c.first_set-run.result in
    let found = run_short bytes c.requires c.type_inv.bytes run (run_is bytes c.requires c.type_inv.bytes run c.first_set-run.ensures) in
    subst (λ (xs : List ℕ). AllByRecursion IsPiece (singles xs)) (take_lanes bytes c.requires c.type_inv.bytes run (returns-clause-within c)) found.pieces

pub returns-clause-count : goal.returns-clause-count
returns-clause-count c =
    let bytes = c.args.bytes.now in
    let run = c.first_set-run.result in
    let found = run_short bytes c.requires c.type_inv.bytes run (run_is bytes c.requires c.type_inv.bytes run c.first_set-run.ensures) in
    let threes = threes_are bytes c.requires c.type_inv.bytes run c.from.result (returns-clause-within c) c.from.ensures in
    ap (λ (x : ℕ). run + 2 * x) threes
    ∙ sym found.count
    ∙ ap (λ (xs : List ℕ). length (flat_map waits_of (singles xs))) (take_lanes bytes c.requires c.type_inv.bytes run (returns-clause-within c))

pub returns-clause-bound : goal.returns-clause-bound
returns-clause-bound c =
    let bytes = c.args.bytes.now in
    let run = c.first_set-run.result in
    let threes = threes_are bytes c.requires c.type_inv.bytes run c.from.result (returns-clause-within c) c.from.ensures in
    omega (arith, threes, threes_within (chunk 0 16 bytes) run)

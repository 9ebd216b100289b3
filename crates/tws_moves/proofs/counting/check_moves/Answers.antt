use Rattle.std.proofs.Common.{length, arith, rules, ap, refl, Ok, sym, flat_map, ◌∙◌}
use Rattle.tws_moves.specs.Spelling.{waits_of}
use Rattle.tws_moves.proofs.Ticks.{count_from}
use Rattle.tws_moves.proofs.Spellings.{one_reading, spells_so_far, cut_at, cut_is_no_spelling, counts_more}
use Rattle.tws_moves.proofs.counting.check_moves.Goals as goal

pub loop-more-preserved : goal.loop-more-preserved
loop-more-preserved c =
    let before = c.loop-more in
    let found = c.in-Some in
    record {
      counts = counts_more c.args.bytes.now before.rest.now found.after.now before.count found.more _ before.invariant.counts found.ensures.counts refl;
      bound = omega (arith, before.invariant.bound, found.ensures.bound);
    }

pub returns-then-not-is_empty-clause-fault : goal.returns-then-not-is_empty-clause-fault
returns-then-not-is_empty-clause-fault c =
    let counts = c.loop-more.invariant.counts in
    cut_at c.args.bytes.now c.loop-more.rest.now counts.pieces counts.so_far c.cut_before.result c.cut_before.ensures c.in_default.ensures.cut (search rules)

pub returns-then-not-is_empty-clause-accepts : goal.returns-then-not-is_empty-clause-accepts
returns-then-not-is_empty-clause-accepts c = λ moves spells. absurd (cut_is_no_spelling c.args.bytes.now _ moves (returns-then-not-is_empty-clause-fault c) spells)

pub returns-clause-counts : goal.returns-clause-counts
returns-clause-counts c =
    let counts = c.loop-more.invariant.counts in
    let spells = spells_so_far c.args.bytes.now c.loop-more.rest.now counts.pieces counts.so_far (search rules) in
    (_, spells, counts.count_is ∙ sym (count_from 0 (flat_map waits_of counts.pieces)))

pub returns-clause-accepts : goal.returns-clause-accepts
returns-clause-accepts c = λ moves spells.
    let counted = returns-clause-counts c in
    ap Ok (counted.2 ∙ ap length (one_reading c.args.bytes.now counted.0 moves counted.1 spells))

use Rattle.std.proofs.Common.{length, arith, rules, ap, inl, length-append}
use Rattle.tws_moves.proofs.Least.{spelled_timed}
use Rattle.tws_moves.proofs.Spellings.{one_reading, spells_so_far, cut_at, spelled_fails, reads_more}
use Rattle.tws_moves.proofs.reading.read_moves.Goals as goal

pub loop-piece-preserved : goal.loop-piece-preserved
loop-piece-preserved g c =
    let before = c.loop-piece in
    let found = c.in-Some in
    let pushed = c.in_ok-next in
    record {
      reads = reads_more c.args.bytes.now before.rest.now found.piece.now found.after.now found.ensures.piece found.ensures.split before.moves.items c.push_piece.new.moves.items before.next pushed.next before.invariant.reads pushed.ensures.moves pushed.ensures.next;
      bound = omega (arith, before.invariant.bound, pushed.ensures.bound, ap length found.ensures.split, length-append found.piece.now found.after.now);
    }

pub returns-then-not-is_empty-clause-fault : goal.returns-then-not-is_empty-clause-fault
returns-then-not-is_empty-clause-fault g c =
    let reads = c.loop-piece.invariant.reads in
    inl (cut_at c.args.bytes.now c.loop-piece.rest.now reads.pieces reads.so_far c.cut_before.result c.cut_before.ensures c.in_default.ensures.cut (search rules))

pub returns-then-not-is_empty-clause-accepts : goal.returns-then-not-is_empty-clause-accepts
returns-then-not-is_empty-clause-accepts g c = λ moves spells. spelled_fails c.args.bytes.now _ moves (returns-then-not-is_empty-clause-fault g c) spells

pub returns-clause-read : goal.returns-clause-read
returns-clause-read g c =
    let reads = c.loop-piece.invariant.reads in
    rw reads.moves_are (spells_so_far c.args.bytes.now c.loop-piece.rest.now reads.pieces reads.so_far (search rules))

pub returns-clause-accepts : goal.returns-clause-accepts
returns-clause-accepts g c = λ moves spells. one_reading c.args.bytes.now c.loop-piece.moves.items moves (returns-clause-read g c) spells

pub returns-clause-timed : goal.returns-clause-timed
returns-clause-timed g c = spelled_timed c.args.bytes.now c.loop-piece.moves.items (returns-clause-read g c)

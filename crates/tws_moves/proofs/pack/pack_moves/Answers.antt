use Rattle.std.proofs.Common.{rules, inl, ◌∙◌, []}
use Rattle.tws_moves.specs.declared.pending.Pending.TheVariants as pending
use Rattle.tws_moves.proofs.PackedBytes.{packed_are}
use Rattle.tws_moves.proofs.Repacking.{packs_piece, packs_more, packs_all, packs_spelling}
use Rattle.tws_moves.proofs.Spellings.{cut_at, spelled_fails}
use Rattle.tws_moves.proofs.pack.pack_moves.Goals as goal

pub loop-piece-preserved : goal.loop-piece-preserved
loop-piece-preserved g c =
    let before = c.loop-piece in
    let found = c.in-Some in
    let new = c.pack_piece.new.packed.items in
    let next = c.in_ok-pending.pending in
    packs_more c.args.bytes.now before.rest.now found.after.now [] before.packed.items new pending.None before.pending next before.invariant
    (packs_piece before.rest.now found.piece.now found.after.now before.packed.items new before.pending next found.ensures.piece found.ensures.split c.in_ok-pending.ensures)

pub returns-then-not-is_empty-clause-fault : goal.returns-then-not-is_empty-clause-fault
returns-then-not-is_empty-clause-fault g c =
    let all = c.loop-piece.invariant in
    inl (cut_at c.args.bytes.now c.loop-piece.rest.now all.pieces all.so_far c.cut_before.result c.cut_before.ensures c.in_default.ensures.cut (search rules))

pub returns-then-not-is_empty-clause-accepts : goal.returns-then-not-is_empty-clause-accepts
returns-then-not-is_empty-clause-accepts g c = λ moves spells. spelled_fails c.args.bytes.now _ moves (returns-then-not-is_empty-clause-fault g c) spells

pub returns-clause-spelled : goal.returns-clause-spelled
returns-clause-spelled g c =
    packs_spelling c.args.bytes.now c.loop-piece.rest.now c.loop-piece.packed.items c.push_to.new.packed.items c.loop-piece.pending c.loop-piece.invariant (search rules)

pub returns-clause-packed : goal.returns-clause-packed
returns-clause-packed g c =
    packs_all c.args.bytes.now c.loop-piece.rest.now c.loop-piece.packed.items c.push_to.new.packed.items c.loop-piece.pending c.loop-piece.invariant (search rules) c.in_ok-push_to.ensures

pub returns-clause-accepts : goal.returns-clause-accepts
returns-clause-accepts g c = λ moves spells. returns-clause-packed g c ∙ packed_are c.args.bytes.now moves spells

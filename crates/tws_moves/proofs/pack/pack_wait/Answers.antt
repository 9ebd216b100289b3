use Rattle.std.proofs.Common.{sym, ◌∙◌}
use Rattle.tws_moves.specs.Bytes.{little_bytes}
use Rattle.tws_moves.proofs.Repacking.{packs_apart}
use Rattle.tws_moves.proofs.pack.pack_wait.Goals as goal

pub returns-in_ok-push_to-2 : goal.returns-in_ok-push_to-2
returns-in_ok-push_to-2 g c =
    let piece = c.in-Some.piece in
    packs_apart c.args.packed.now.items c.push_to.new.packed.items
    (little_bytes piece.length piece.number) c.push_to-in-Some.new.bytes.items c.args.pending c.args.wait
    (sym c.is_plain.ensures ∙ c.if-is_plain.false) c.in_ok-push_to.ensures c.in-Some.ensures.bytes c.in_ok-push_to-2.ensures

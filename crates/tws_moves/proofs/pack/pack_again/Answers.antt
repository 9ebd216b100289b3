use Rattle.std.proofs.Common.{List, length, ap, sym, ◌∙◌, subst}
use Rattle.tws_moves.specs.declared.pending.Pending.TheVariants as pending
use Rattle.tws_moves.specs.Bytes.{little_bytes}
use Rattle.tws_moves.specs.Move.{Wait}
use Rattle.tws_moves.specs.Steps.{Packs}
use Rattle.tws_moves.proofs.Again.{again}
use Rattle.tws_moves.proofs.Repacking.{packs_apart}
use Rattle.tws_moves.proofs.pack.pack_again.Goals as goal

pub returns : goal.returns
returns g c =
    let piece = c.args.piece.now in
    let is = again piece c.requires.piece c.requires.shortest in
    let new = c.push_to-2.new.bytes.items in
    subst (λ (ws : List Wait). Packs c.args.packed.now.items c.args.pending ws new pending.None) (sym is.waits)
    (packs_apart c.args.packed.now.items c.push_to.new.packed.items (little_bytes (length piece) c.args.number) new c.args.pending is.wait is.other
    c.in_ok-push_to.ensures (ap (little_bytes (length piece)) c.requires.number ∙ is.same) c.in_ok-push_to-2.ensures)

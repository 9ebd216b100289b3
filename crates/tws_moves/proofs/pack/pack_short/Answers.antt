use Rattle.std.proofs.Common.{arith, sym, subst, ◌∙◌, [], ◌∷◌, ◌/◌, ◌%◌, List}
use Rattle.tws_moves.specs.declared.act.Act.TheVariants.{Step}
use Rattle.tws_moves.specs.declared.pending.Pending.TheVariants as pending
use Rattle.tws_moves.specs.Move.{Wait}
use Rattle.tws_moves.specs.Steps.{Packs}
use Rattle.tws_moves.proofs.Repacking.{packs_apart, short_waits, short_alone}
use Rattle.tws_moves.proofs.pack.pack_short.Goals as goal

pub returns : goal.returns
returns g c =
    let byte = c.args.byte in
    let wait : Wait = record { ticks = c.from.result; act = Step (byte / 4 % 8) } in
    let more = c.push_to.new.packed.items in
    let new = c.push.new.self.items in
    subst (λ (ws : List Wait). Packs c.args.packed.now.items c.args.pending ws new pending.None)
    (sym (short_waits byte c.from.result c.from.ensures c.requires.short (omega (arith, c.ranges.byte.fits))))
    (packs_apart c.args.packed.now.items more (byte ∷ []) new c.args.pending wait
    (sym c.is_plain.ensures ∙ c.if-is_plain.false) c.in_ok-push_to.ensures
    (short_alone byte c.from.result c.from.ensures c.requires.short
    (omega (arith, c.ranges.byte.fits))) c.in_ok-push.ensures.items)

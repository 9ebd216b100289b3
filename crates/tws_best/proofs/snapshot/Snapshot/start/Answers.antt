use Rattle.std.proofs.Common.{ℕ, ap, length, arith, List, ◌∙◌, get_or}
use Rattle.std.proofs.lemmas.List.{get_or_default}
use Rattle.tws_best.specs.Frozen.{record_start}
use Rattle.tws_best.proofs.Starts.{starts_length, start_at}
use Rattle.tws_best.proofs.snapshot.Snapshot.start.Goals as goal

pub index-requires : goal.index-requires
index-requires g c =
    omega (arith, c.requires, c.self.inside.starts.ok, ap length c.self.invariant.starts, starts_length 8 c.self.inside.bodies.items, ap (λ v. length v.bodies) c.self.view_is)

pub returns : goal.returns
returns g c =
    let bodies = c.self.inside.bodies.items in
    let starts = c.self.inside.starts.items in
    let count = ap length c.self.invariant.starts in
    let size = starts_length 8 bodies in
    let same = ap (λ v. length v.bodies) c.self.view_is in
    c.index.ensures
    ∙ get_or_default starts c.args.i c.index.result.now 0 (omega (arith, c.requires, count, size, same))
    ∙ ap (λ (ns : List ℕ). get_or ns c.args.i 0) c.self.invariant.starts
    ∙ start_at 8 bodies c.args.i (omega (arith, c.requires, same))
    ∙ ap (λ v. record_start v c.args.i) c.self.view_is

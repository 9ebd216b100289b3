use Rattle.std.proofs.Common.{◌≡◌, Some, sym, ap, ◌∙◌, inl}
use Rattle.std.specs.Map.{lookup, set_value}
use Rattle.archive_table.specs.Table.{at_port}
use Rattle.archive_table.proofs.Held.{placed, placed_at, found_written}
use Rattle.archive_table.proofs.ports.Ports.get_mut.Goals as goal

pub index_mut-requires : goal.index_mut-requires
index_mut-requires g c = placed c.self.inside.keys c.self.inside.slots c.self.invariant (at_port c.args.port) c.in_ok-key.key (sym c.in_ok-key.ensures)

pub returns : goal.returns
returns g c =
    let keys = c.self.inside.keys in
    let slots = c.self.inside.slots in
    let key = c.in_ok-key.key in
    let port = at_port c.args.port in
    let leads : lookup port keys ≡ Some key = sym c.in_ok-key.ensures in (
      λ i. inl (c.index_mut.result.ghost_name, λ w. (found_written keys slots c.self.invariant port key w leads ∙ ap (λ l. set_value port l w) c.self.view_is) i),
      record {
        writes_back = tt;
        value = sym c.index_mut.ensures.value ∙ sym (placed_at keys slots c.self.invariant port key leads) ∙ ap (lookup port) c.self.view_is;
      },
    )

use Rattle.std.proofs.Common.{◌≡◌, ◌<◌, ◌/◌, ◌∙◌, length, slice_index, rules, arith}
use Rattle.std.proofs.lemmas.List.{get_or_default}
use Rattle.archive_sockets.specs.Drawing.{Draws}
use Rattle.archive_sockets.proofs.Dealing.{drawn-distinct}
use Rattle.archive_sockets.proofs.port_deck.take_at.Goals as goal

pub returns-clause-distinct : goal.returns-clause-distinct
returns-clause-distinct c =
    let size : c.args.ports.now.len ≡ length c.args.ports.now.items = search rules in
    let near : c.args.place < length c.args.ports.now.items / 2 = omega (arith, c.requires.near, size) in
    let taken : c.remove-port.result ≡ slice_index c.args.ports.now.items c.args.place =
    c.remove-port.ensures.value ∙ get_or_default c.args.ports.now.items c.args.place c.remove-port.result 0 (omega (arith, near)) in
    let d : Draws c.args.ports.now.items c.push_reserved.new.self.items c.remove-port.result =
    record { place = c.args.place; near = near; taken = taken; goes_last = search rules } in
    drawn-distinct c.args.ports.now.items c.push_reserved.new.self.items c.remove-port.result c.requires.distinct d

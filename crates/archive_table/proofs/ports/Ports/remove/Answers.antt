use Rattle.std.proofs.Common.{sym, ap, ◌∙◌, subst}
use Rattle.std.specs.Prelude.{◌≡◌, ℕ, List, None}
use Rattle.std.specs.Map.{lookup, remove_entry}
use Rattle.slab.specs.Slab.{get}
use Rattle.archive_table.specs.Table.{at_port}
use Rattle.archive_table.specs.Ports.{found_at, AreHeld}
use Rattle.archive_table.proofs.Found.{then_at, lookup_found}
use Rattle.archive_table.proofs.Held.{placed, found_removed, held_removed}
use Rattle.archive_table.proofs.Live.{remove_none}
use Rattle.archive_table.proofs.ports.Ports.remove.Goals as goal

pub remove-requires-in-Some : goal.remove-requires-in-Some
remove-requires-in-Some g c = placed c.self.inside.keys c.self.inside.slots c.self.invariant (at_port c.args.port) c.in-Some.key (sym c.remove.ensures.key ∙ c.in-Some.is)

pub invariant_of-self : goal.invariant_of-self
invariant_of-self g c =
    subst (λ (es : List (ℕ × ℕ)). AreHeld es c.remove-in-Some.new.self) (sym c.remove.ensures.left)
    (held_removed c.self.inside.keys c.self.inside.slots c.self.invariant c.remove-in-Some.new.self c.in-Some.key
    (at_port c.args.port) (sym c.remove.ensures.key ∙
    c.in-Some.is) c.remove-in-Some.ensures.updates c.remove-in-Some.ensures.len)

pub invariant_of-self-in_default : goal.invariant_of-self-in_default
invariant_of-self-in_default g c =
    let keys = c.self.inside.keys in
    let test = at_port c.args.port in
    subst (λ (es : List (ℕ × ℕ)). AreHeld es c.self.inside.slots) (sym (c.remove.ensures.left ∙ remove_none test keys (sym c.remove.ensures.key ∙ c.in_default.is))) c.self.invariant

pub returns-in-Some : goal.returns-in-Some
returns-in-Some g c =
    ap (found_at (get c.remove-in-Some.new.self)) c.remove.ensures.left
    ∙ found_removed c.self.inside.keys c.self.inside.slots c.self.invariant c.remove-in-Some.new.self c.in-Some.key
    (at_port c.args.port) (sym c.remove.ensures.key ∙ c.in-Some.is) c.remove-in-Some.ensures.updates
    ∙ ap (remove_entry (at_port c.args.port)) c.self.view_is

pub returns-in_default : goal.returns-in_default
returns-in_default g c =
    let keys = c.self.inside.keys in
    let test = at_port c.args.port in
    let slot = get c.self.inside.slots in
    let none : lookup test keys ≡ None = sym c.remove.ensures.key ∙ c.in_default.is in
    ap (found_at slot) (c.remove.ensures.left ∙ remove_none test keys none)
    ∙ sym (remove_none test (found_at slot keys) (lookup_found slot test keys c.self.invariant.held ∙ ap (then_at slot) none))
    ∙ ap (remove_entry test) c.self.view_is

use Rattle.std.proofs.Common.{sym, ap, ◌∙◌, subst}
use Rattle.std.specs.Prelude.{◌≡◌, ℕ, List, None}
use Rattle.std.specs.Map.{lookup}
use Rattle.std.specs.BTreeMap.{insert_entry}
use Rattle.std.specs.Ordering.{nat_cmp}
use Rattle.slab.specs.Slab.{get}
use Rattle.archive_table.specs.Table.{at_port}
use Rattle.archive_table.specs.Ports.{found_at, AreHeld}
use Rattle.archive_table.proofs.Held.{free_port, held_room, found_inserted, held_inserted}
use Rattle.archive_table.proofs.ports.Ports.insert.Goals as goal

pub insert-requires : goal.insert-requires
insert-requires g c =
    let keys = c.self.inside.keys in
    let room = c.reserve.new.self in
    let held : AreHeld keys room = subst (λ p. AreHeld keys p) (sym c.reserve.ensures.rest_kept) (held_room keys c.self.inside.slots c.self.invariant room.capacity) in
    let was : found_at (get room) keys ≡ c.args.self.now = ap (λ p. found_at (get p) keys) c.reserve.ensures.rest_kept ∙ c.self.view_is in
    record { free = free_port keys room held (at_port c.args.port) (ap (lookup (at_port c.args.port)) was ∙ c.requires.free) }

pub invariant_of-self-2 : goal.invariant_of-self-2
invariant_of-self-2 g c =
    let keys = c.self.inside.keys in
    let room = c.reserve.new.self in
    let held : AreHeld keys room = subst (λ p. AreHeld keys p) (sym c.reserve.ensures.rest_kept) (held_room keys c.self.inside.slots c.self.invariant room.capacity) in
    let was : found_at (get room) keys ≡ c.args.self.now = ap (λ p. found_at (get p) keys) c.reserve.ensures.rest_kept ∙ c.self.view_is in
    let free : lookup (at_port c.args.port) keys ≡ None = free_port keys room held (at_port c.args.port) (ap (lookup (at_port c.args.port)) was ∙ c.requires.free) in
    let same = c.insert_reserved.ensures.key ∙ sym c.vacant_key-key.ensures.value in
    subst (λ (es : List (ℕ × ℕ)). AreHeld es c.insert_reserved.new.self)
    (sym (c.in_ok-insert.ensures.inserted ∙ ap (λ (k : ℕ). insert_entry nat_cmp keys c.args.port k) (sym same)))
    (held_inserted keys room held c.insert_reserved.new.self c.insert_reserved.result c.args.port c.args.value c.insert_reserved.ensures.was_vacant c.insert_reserved.ensures.updates free c.insert_reserved.ensures.len)

pub returns-clause-inserted : goal.returns-clause-inserted
returns-clause-inserted g c =
    let keys = c.self.inside.keys in
    let room = c.reserve.new.self in
    let held : AreHeld keys room = subst (λ p. AreHeld keys p) (sym c.reserve.ensures.rest_kept) (held_room keys c.self.inside.slots c.self.invariant room.capacity) in
    let was : found_at (get room) keys ≡ c.args.self.now = ap (λ p. found_at (get p) keys) c.reserve.ensures.rest_kept ∙ c.self.view_is in
    let free : lookup (at_port c.args.port) keys ≡ None = free_port keys room held (at_port c.args.port) (ap (lookup (at_port c.args.port)) was ∙ c.requires.free) in
    let same = c.insert_reserved.ensures.key ∙ sym c.vacant_key-key.ensures.value in
    ap (found_at (get c.insert_reserved.new.self)) (c.in_ok-insert.ensures.inserted ∙ ap (λ (k : ℕ). insert_entry nat_cmp keys c.args.port k) (sym same))
    ∙ found_inserted keys room held c.insert_reserved.new.self c.insert_reserved.result c.args.port c.args.value c.insert_reserved.ensures.was_vacant c.insert_reserved.ensures.updates free
    ∙ ap (λ l. insert_entry nat_cmp l c.args.port c.args.value) was

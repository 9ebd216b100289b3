-- What the ports become when a `&mut` to the value at one of them is returned.
use Rattle.std.specs.Prelude.{ℕ, List, Option}
use Rattle.std.specs.Borrow.{LendsIf, Fml, RattleType, MutBor}
use Rattle.std.specs.declared.alloc.Allocator.{Ghosts}
use Rattle.std.specs.Map.{set_value}
use Rattle.archive_table.specs.Table.{at_port}
use Rattle.archive_table.specs.contracts.ports.Ports.{the_row}

module _ (T A : RattleType) (alloc : Ghosts A.Denot) (p : MutBor (List (ℕ × T.Denot))) (port : ℕ) where
  -- Once the borrow r ends, the port has the last value written through r; at `None` nothing changes.
  abbrev pub lends_get : Option (MutBor T.Denot) → Fml
  lends_get r = LendsIf (the_row T A alloc) T p r (set_value (at_port port) p.now) p.now

-- The slab keys of the live ports, without their layout in memory.
use Rattle.std.specs.Prelude.{◌≡◌, ℕ, ◌%◌, List, Option, None, Some, IfSome, slice_index_or}
use Rattle.std.specs.Map.{lookup}
use Rattle.archive_table.specs.declared.keys.TheConstants.{CACHE_SIZE}
use Rattle.archive_table.specs.declared.keys.CachedPort.{CachedPort}
use Rattle.archive_table.specs.declared.keys.Keys.TheInside.{Inside}
use Rattle.archive_table.specs.Table.{at_port}

abbrev pub entries_in : {A : Type 0} → Inside A → List (ℕ × ℕ)
entries_in k = k.map.entries

-- the port in this slot belongs there, and has this key in the map
pub record IsCached (entries : List (ℕ × ℕ)) (slot : ℕ) (cached : CachedPort) : Type 0 where
  pub here : cached.port % CACHE_SIZE ≡ slot
  pub key_is : lookup (at_port cached.port) entries ≡ Some cached.key

-- this holds of each slot that is not empty
abbrev pub AreCached : List (ℕ × ℕ) → List (Option CachedPort) → Type 0
AreCached entries cache = (slot : ℕ) → IfSome (slice_index_or cache slot None) (IsCached entries slot)

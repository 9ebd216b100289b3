-- A cache without ports.
use Rattle.std.specs.Prelude.{ℕ, zero, suc, List, [], ◌∷◌, Option, None, Some, IfSome, slice_index_or}
use Rattle.archive_table.specs.declared.keys.CachedPort.{CachedPort}

-- no slot has a port
abbrev pub AreNone : List (Option CachedPort) → Type 0
AreNone [] = Unit {0}
AreNone (None ∷ xs) = AreNone xs
AreNone (Some e ∷ xs) = ⊥

-- so any property holds of whatever a slot has
pub none_cached : (P : CachedPort → Type 0) (cache : List (Option CachedPort)) → AreNone cache → (slot : ℕ) → IfSome (slice_index_or cache slot None) P
none_cached P [] h slot = tt
none_cached P (None ∷ xs) h zero = tt
none_cached P (None ∷ xs) h (suc slot) = none_cached P xs h slot
none_cached P (Some e ∷ xs) h slot = absurd h

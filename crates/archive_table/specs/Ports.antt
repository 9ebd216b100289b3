-- The live ports of a server as its table keeps them: a port leads to a key, and the key to a slot of a slab.
use Rattle.std.specs.Prelude.{◌≡◌, ◌≢◌, ℕ, List, [], ◌∷◌, length, Option, None, Some, IsSome}
use Rattle.std.specs.List.{All}
use Rattle.std.specs.Map.{values_of}
use Rattle.slab.specs.Slab.{Slab, get, slab_len}

abbrev pub entry_at : {T : Type 0} → (port : ℕ) → Option T → List (ℕ × T) → List (ℕ × T)
entry_at port None rest = rest
entry_at port (Some x) rest = (port, x) ∷ rest

-- the value at each port, in the order of the ports
abbrev pub found_at : {T : Type 0} → (slot : ℕ → Option T) → List (ℕ × ℕ) → List (ℕ × T)
found_at slot [] = []
found_at slot (e ∷ es) = entry_at e.0 (slot e.1) (found_at slot es)

-- no two ports have the same key
abbrev pub AreApart : List (ℕ × ℕ) → Type 0
AreApart [] = Unit {0}
AreApart (e ∷ es) = All (λ k. k ≢ e.1) (values_of es) × AreApart es

-- each key has its slot, no two ports have the same key, and no slot is without a port
pub record AreHeld {T : Type 0} (keys : List (ℕ × ℕ)) (slots : Slab T) : Type 0 where
  pub held : All (λ k. IsSome (get slots k)) (values_of keys)
  pub apart : AreApart keys
  pub all : slab_len slots ≡ length keys

-- What a deck of ports deals, one draw after another.
use Rattle.std.specs.Prelude.{◌≡◌, ◌≢◌, ℕ, ◌+◌, ◌<◌, List, [], ◌∷◌, length, slice_index_or}
use Rattle.std.specs.List.{AllPairs}
use Rattle.archive_sockets.specs.Drawing.{Draws}

-- so many ports from the first one on, in order
pub record AreFrom (first : ℕ) (cards : List ℕ) (count : ℕ) : Type 0 where
  pub size : length cards ≡ count
  pub each : (k d : ℕ) → k < count → slice_index_or cards k d ≡ first + k

-- no port is there twice
abbrev pub AreDistinct : List ℕ → Type 0
AreDistinct cards = AllPairs (λ one other. one ≢ other) cards

-- these ports are drawn
abbrev pub Deals : (ports cards : List ℕ) → Type 0
Deals [] cards = Unit {0}
Deals (port ∷ ports) cards = (after : List ℕ) × Draws cards after port × Deals ports after

-- A count of the calls that failed, which saturates at the greatest value of 64 bits.
use Rattle.std.specs.Prelude.{◌≡◌, ◌⊎◌, ℕ, ◌<◌, ◌^◌, ◌-◌}

-- the count rose in this call, or is at its greatest value
abbrev pub Rises : (old new : ℕ) → Type 0
Rises old new = (old < new) ⊎ (new ≡ 2 ^ 64 - 1)

-- Which lists of numbers are bytes.
use Rattle.std.specs.Prelude.{ℕ, ◌<◌, List, slice_index}

-- no member is above 255
abbrev pub IsBytes : List ℕ → Type 0
IsBytes bytes = (i : ℕ) → slice_index bytes i < 256

-- How the next port of a deck is drawn.
use Rattle.std.specs.Prelude.{◌≡◌, ◌<◌, ◌/◌, ℕ, List, [], ◌∷◌, ◌++◌, length, slice_index}
use Rattle.std.specs.List.{remove}

-- One of the first half of the ports is taken, and comes last then. So it comes again only after the others of the second half.
pub record Draws (old new : List ℕ) (port : ℕ) : Type 0 where
  pub place : ℕ
  pub near : place < length old / 2
  pub taken : port ≡ slice_index old place
  pub goes_last : new ≡ remove old place ++ port ∷ []

-- What a command says on standard error of what it did, when all is done. `Silent` is what holds if standard error was left
-- alone; after it come what standard error had, and what it has.
use Rattle.std.specs.Prelude.{ℕ, List, [], ◌∷◌, Option}
use Rattle.std.specs.Io.KnownBytes.{Appends}

-- exactly this text was written; if it is empty, nothing was
abbrev pub Says : (text : List ℕ) → (Silent : Type 0) → (old new : Option (List ℕ)) → Type 0
Says [] Silent old new = Silent
Says (code ∷ text) Silent old new = Appends old new (code ∷ text)

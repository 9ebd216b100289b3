-- How much of a text a call has written.
use Rattle.std.specs.Prelude.{◌≡◌, ◌≢◌, ℕ, List, [], ◌++◌, Option}
use Rattle.std.specs.Io.KnownBytes.{Appends}

-- a prefix of the text was written, and `rest` was not
pub record Sends (old new : Option (List ℕ)) (text rest : List ℕ) : Type 0 where
  pub sent : List ℕ
  pub cut : text ≡ sent ++ rest
  pub appends : Appends old new sent

-- a proper prefix of the text was written
pub record AppendsPrefix (old new : Option (List ℕ)) (text : List ℕ) : Type 0 where
  pub rest : List ℕ
  pub some : rest ≢ []
  pub sends : Sends old new text rest

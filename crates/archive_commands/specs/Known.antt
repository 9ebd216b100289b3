-- What is known of the files and hosts of a system: the bytes of the file with a name, what a draft for that name begins
-- with, the solution files below the folder of a name, if it is a folder's, and the host of a name, if it has one.
use Rattle.std.specs.Prelude.{ℕ, List, Option}

pub record Known : Type 0 where
  pub bytes_of : List ℕ → Option (List ℕ)
  pub drafted_of : List ℕ → Option (List ℕ)
  pub below_of : List ℕ → Option (Option (List (List ℕ)))
  pub host_of : List ℕ → Option (Option ℕ)

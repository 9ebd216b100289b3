-- A path that is made in an empty buffer.
use Rattle.std.proofs.Common.{◌≡◌, ℕ, Bool, true, false, cond, List, [], refl}
use Rattle.std.specs.Path.{path_join}

same : (b : Bool) (path : List ℕ) → cond b path path ≡ path
same true path = refl
same false path = refl

pub join_empty : (path : List ℕ) → path_join [] path ≡ path
unfolding path_join
join_empty path = same _ path

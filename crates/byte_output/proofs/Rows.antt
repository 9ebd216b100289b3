-- A loop that writes each member of a row.
use Rattle.std.specs.Prelude.{◌≡◌, ℕ, ◌+◌, ◌<◌, List, ◌++◌, length, map, take, drop}
use Rattle.std.proofs.Common.{ap, ◌∙◌, get_or}
use Rattle.std.proofs.Math.ListN.{set}
use Rattle.std.proofs.lemmas.List.{get_or_default}
use Rattle.std.proofs.lemmas.List.Edits.{map_over_more}

-- the first i members are written, and then one more
pub written_more : {X : Type 0} (f : X → X) (xs ys : List X) (i : ℕ) (d y : X) → i < length xs → length ys ≡ length xs →
    ys ≡ map f (take i xs) ++ drop i xs → y ≡ f (get_or ys i d) → set ys i y ≡ map f (take (i + 1) xs) ++ drop (i + 1) xs
written_more f xs ys i d y small same so-far y-is =
    let within : i < length ys = rw same small in
    ap (λ x. set ys i x) y-is ∙ map_over_more f xs ys i (get_or ys i d) small so-far (get_or_default ys i d _ within)

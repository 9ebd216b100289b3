-- What is dropped from a list of records, and what stays.
use Rattle.std.specs.Prelude.{◌≡◌, ◌⊎◌, List, [], ◌∷◌}
use Rattle.tws_file.specs.declared.key.Key.{Key}
use Rattle.tws_file.specs.Text.{Record, pad, set, bare, solution}

-- the record is a solution of this level
abbrev pub IsSolutionOf : Key → Record → Type 0
IsSolutionOf key pad = ⊥
IsSolutionOf key (set rest) = ⊥
IsSolutionOf key (bare other) = ⊥
IsSolutionOf key (solution s) = s.key ≡ key

-- the first list has some of the second, in order
abbrev pub IsSubsequence : {X : Type 0} → List X → List X → Type 0
IsSubsequence xs [] = xs ≡ []
IsSubsequence {X} xs (y ∷ ys) = IsSubsequence xs ys ⊎ ((rest : List X) × (xs ≡ y ∷ rest) × IsSubsequence rest ys)

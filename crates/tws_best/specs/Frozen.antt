-- What a snapshot is: the text of a collection at one moment, as the bodies of its records.
use Rattle.std.specs.Prelude.{ℕ, ◌+◌, List, [], ◌∷◌, ◌++◌, length, take, map}
use Rattle.std.specs.List.{flat_map}
use Rattle.tws_file.specs.declared.«ruleset».Ruleset.{Ruleset}
use Rattle.tws_best.specs.Best.{KeyedBody, Collected, body_text, collection_header}

pub record Frozen : Type 0 where
  pub «ruleset» : Ruleset
  -- in the order of the records
  pub bodies : List (List ℕ)

-- the snapshot of a collection
abbrev pub frozen : Collected → Frozen
frozen c = record { «ruleset» = c.ruleset; bodies = map (λ (e : KeyedBody). e.body) c.entries }

abbrev pub frozen_text : Frozen → List ℕ
frozen_text s = collection_header s.ruleset ++ flat_map body_text s.bodies

-- the offset in the text of the size field of record i, counted from 0
abbrev pub record_start : Frozen → ℕ → ℕ
record_start s i = 8 + length (flat_map body_text (take i s.bodies))

-- the offsets of all size fields, with the first one at this offset
abbrev pub starts_from : ℕ → List (List ℕ) → List ℕ
starts_from at [] = []
starts_from at (body ∷ bodies) = at ∷ starts_from (at + length (body_text body)) bodies

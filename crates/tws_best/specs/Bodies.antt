-- The pairs of a map as entries.
use Rattle.std.specs.Prelude.{ℕ, List, map}
use Rattle.tws_file.specs.declared.key.Key.{Key}
use Rattle.tws_best.specs.Best.{KeyedBody}

abbrev pub BodyPair : Type 0
BodyPair = Key × List ℕ

abbrev pub keyed_bodies : List BodyPair → List KeyedBody
keyed_bodies ps = map (λ (p : BodyPair). record { key = p.0; body = p.1 }) ps

-- the same entries as pairs again
abbrev pub pairs_of : List KeyedBody → List BodyPair
pairs_of es = map (λ (e : KeyedBody). (e.key, e.body)) es

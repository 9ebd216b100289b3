-- What always holds of the bodies of a collection: the field beside them is the length of their records.
use Rattle.std.specs.Prelude.{◌≡◌, ◌<◌, ◌^◌, length}
use Rattle.std.specs.List.{All, flat_map}
use Rattle.std.specs.BTreeMap.{values}
use Rattle.tws_best.specs.declared.bodies.Bodies.TheInside.{Inside}
use Rattle.tws_best.specs.Best.{body_text}

pub record IsMeasured {A : Type 0} (b : Inside A) : Type 0 where
  pub len : b.records_len ≡ length (flat_map body_text (values b.map))
  -- so the sum stays small
  pub sized : All (λ body. length body < 2 ^ 32) (values b.map)

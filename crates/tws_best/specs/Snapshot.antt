-- A snapshot as contracts see it, without its layout in memory.
use Rattle.std.specs.Prelude.{◌≡◌, ◌+◌, length}
use Rattle.std.specs.List.{flat_map}
use Rattle.tws_best.specs.declared.snapshot.Snapshot.TheInside.{Inside}
use Rattle.tws_best.specs.Best.{body_text}
use Rattle.tws_best.specs.Frozen.{Frozen, starts_from}

abbrev pub frozen_in : {A : Type 0} → Inside A → Frozen
frozen_in s = record { «ruleset» = s.ruleset; bodies = s.bodies.items }

-- the offsets and the length are those of the text
pub record IsLaidOut {A : Type 0} (s : Inside A) : Type 0 where
  pub starts : s.starts.items ≡ starts_from 8 s.bodies.items
  pub len : s.len ≡ 8 + length (flat_map body_text s.bodies.items)

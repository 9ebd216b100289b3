-- The best solutions of two files as contracts see them, without their layout in memory.
use Rattle.tws_compare.specs.declared.sides.Sides.TheInside.{Inside}
use Rattle.tws_best.specs.Best.{IsCollected}
use Rattle.tws_compare.specs.Standing.{TwoSides}

abbrev pub two_sides : {A : Type 0} → Inside A → TwoSides
two_sides s = record { mine = s.mine.entries; theirs = s.theirs.entries }

pub record AreCollected {A : Type 0} (s : Inside A) : Type 0 where
  pub mine : IsCollected s.mine
  pub theirs : IsCollected s.theirs

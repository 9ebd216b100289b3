-- A solution as contracts see it, without its layout in memory.
use Rattle.tws_file.specs.declared.solution.Solution.TheInside.{Inside}
use Rattle.tws_file.specs.Text.{Solution}

abbrev pub solution_of : {A : Type 0} → Inside A → Solution
solution_of s = record {
  key = s.key;
  flags = s.flags;
  start = s.start;
  seed = s.seed;
  ticks = s.ticks;
  moves = s.moves;
}

use Rattle.std.proofs.Common.{◌≡◌, map}
use Rattle.std.specs.List.{flat_map}
use Rattle.tws_pages.specs.Levels.{level_in}
use Rattle.tws_pages.proofs.level_list.read_levels.Given as goal

abbrev pub invariant-loop-line : goal.invariant-loop-line
invariant-loop-line l = l.levels.items ≡ flat_map level_in (map (λ x. x.now) l.yielded)

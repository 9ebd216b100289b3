use Rattle.std.proofs.Common.{◌≡◌, map, take}
use Rattle.tws_compare.specs.Compare.{row_at}
use Rattle.tws_compare.proofs.comparing.rows_at.Given as goal

abbrev pub invariant-loop-key : goal.invariant-loop-key
invariant-loop-key g l = l.rows.items ≡ map (row_at l.sides) (take l.key-index l.keys)

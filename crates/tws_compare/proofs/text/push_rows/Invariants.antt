use Rattle.std.proofs.Common.{◌≡◌, ◌++◌, take, string_bytes}
use Rattle.std.specs.List.{flat_map}
use Rattle.tws_compare.specs.Lines.{row_line}
use Rattle.tws_compare.proofs.text.push_rows.Given as goal

abbrev pub invariant-loop-row : goal.invariant-loop-row
invariant-loop-row g l = string_bytes l.text ≡ string_bytes l.fn.text ++ flat_map row_line (take l.row-index l.rows)

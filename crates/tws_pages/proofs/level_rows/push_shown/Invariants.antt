use Rattle.std.proofs.Common.{◌≡◌, ◌++◌, take, map, string_bytes}
use Rattle.tws_pages.specs.Escaping.{escaped}
use Rattle.tws_pages.specs.SetName.{shown_byte}
use Rattle.tws_pages.proofs.level_rows.push_shown.Given as goal

abbrev pub invariant-loop-byte : goal.invariant-loop-byte
invariant-loop-byte g l = string_bytes l.text ≡ string_bytes l.initial.text ++ escaped (map shown_byte (take l.byte-index l.name))

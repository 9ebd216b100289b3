use Rattle.std.proofs.Common.{take}
use Rattle.std.specs.Prelude.{map}
use Rattle.std.specs.Fmt.{HasWritten, IsPlainFormatter}
use Rattle.tws_pages.specs.SetName.{shown_byte}
use Rattle.tws_pages.proofs.level_set.ShownNameDisplay.fmt.Given as goal

abbrev pub invariant-loop-byte : goal.invariant-loop-byte
invariant-loop-byte g l = IsPlainFormatter l.initial.f → HasWritten g.W.Write.write_str_gives l.initial.f (map shown_byte (take l.byte-index l.shown)) l.f

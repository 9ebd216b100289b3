use Rattle.std.proofs.Common.{◌≡◌, ◌++◌, string_bytes}
use Rattle.tws_pages.specs.Escaping.{escaped}
use Rattle.tws_pages.proofs.page_head.push_escaped.Given as goal

abbrev pub invariant-loop-c : goal.invariant-loop-c
invariant-loop-c g l = string_bytes l.text ≡ string_bytes l.initial.text ++ escaped l.yielded

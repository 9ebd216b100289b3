use Rattle.std.proofs.Common.{◌≡◌, true}
use Rattle.tws_tool.proofs.Seeing.{may_end, IsPlain}
use Rattle.tws_tool.proofs.visible_errors.plain_bytes.Given as goal

-- no hidden byte so far
abbrev pub invariant-loop-i : goal.invariant-loop-i
invariant-loop-i l = (l.after ≡ may_end true l.bytes l.i) × IsPlain true l.bytes l.i

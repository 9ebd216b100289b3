use Rattle.std.proofs.Common.{true, false, ◌∙◌, sym, arith}
use Rattle.tws_tool.proofs.Seeing.{plain_is, plain_more, may_next, here_by}
use Rattle.tws_tool.proofs.visible_errors.plain_bytes.Goals as goal

-- the first byte that is hidden
pub returns-then-is_hidden-clause-plain : goal.returns-then-is_hidden-clause-plain
returns-then-is_hidden-clause-plain c =
    plain_is c.loop-i.i true c.args.bytes.now (omega (arith, c.loop-i-test.true)) c.loop-i.invariant.1
    (λ below. here_by c.loop-i.i c.loop-i.after true c.args.bytes.now c.loop-i.invariant.0 (sym c.if-is_hidden.true ∙ c.is_hidden.ensures))

-- a byte that is not hidden
pub loop-i-preserved : goal.loop-i-preserved
loop-i-preserved c = (
  may_next c.loop-i.i true c.args.bytes.now,
  plain_more c.loop-i.i true c.args.bytes.now c.loop-i.invariant.1
      (here_by c.loop-i.i c.loop-i.after false c.args.bytes.now c.loop-i.invariant.0 (sym c.if-is_hidden.false ∙ c.is_hidden.ensures)),
)

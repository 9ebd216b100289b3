use Rattle.std.proofs.Common.{arith, sym}
use Rattle.std.proofs.lemmas.List.{length-take-le, take_all}
use Rattle.tws_tool.proofs.refusal_wire.beginning.Goals as goal

pub returns-then-text-le-REFUSAL-clause-bytes : goal.returns-then-text-le-REFUSAL-clause-bytes
returns-then-text-le-REFUSAL-clause-bytes c = sym (take_all _ _ c.if-text-le-REFUSAL.true)

pub slice_bounds-result-end : goal.slice_bounds-result-end
slice_bounds-result-end c = sym (length-take-le 128 c.args.text.now (omega (arith, c.if-text-le-REFUSAL.false)))

pub returns-clause-few : goal.returns-clause-few
returns-clause-few c = omega (arith, length-take-le 128 c.args.text.now (omega (arith, c.if-text-le-REFUSAL.false)))

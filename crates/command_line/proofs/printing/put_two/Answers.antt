use Rattle.std.proofs.Common.{subst}
use Rattle.std.proofs.lemmas.Result.{on_err_weaker}
use Rattle.byte_output.specs.Output.{AppendsPrefix}
use Rattle.byte_output.proofs.Sending.{at_err, first_alone, prefix_in_turn}
use Rattle.command_line.proofs.printing.put_two.Goals as goal

pub returns-in_err-put-clause-err : goal.returns-in_err-put-clause-err
returns-in_err-put-clause-err g c =
    let new = g.E.Write.contents c.put.new.out in
    at_err c.from_residual.result (first_alone (g.E.Write.contents c.args.errors.now) new new c.args.first.now c.args.second.now c.as_bytes.result.now c.as_bytes.ensures.value c.in_err-put.ensures.err)

pub returns-clause-err : goal.returns-clause-err
returns-clause-err g c =
    let mid = g.E.Write.contents c.put.new.out in
    let new = g.E.Write.contents c.put-2.new.out in
    on_err_weaker c.put-2.result
    (λ cut. prefix_in_turn (g.E.Write.contents c.args.errors.now) mid new c.args.first.now c.args.second.now c.as_bytes.result.now c.as_bytes.ensures.value c.in_ok-put.ensures.ok
    (subst (AppendsPrefix mid new) c.as_bytes-2.ensures.value cut))
    c.put-2.ensures.err

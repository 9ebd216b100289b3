use Rattle.std.proofs.Common.{[], refl, subst, sym, rules}
use Rattle.std.proofs.lemmas.Result.{err_from_is_err_and}
use Rattle.tws_reader.specs.Reader.{HasTaken}
use Rattle.tws_reader.proofs.ReadSoFar.{only_memory, push_fails, reads_as}
use Rattle.tws_reader.proofs.reader.read_file.Goals as goal

pub returns-in_err-push-clause-accepts : goal.returns-in_err-push-clause-accepts
returns-in_err-push-clause-accepts g c = λ file text.
    let p = err_from_is_err_and c.from_residual.result c.from_residual.ensures.1 in
    rw (p.1, p.2) (only_memory c.args.bytes.now file _ (push_fails c.args.bytes.now _ _ _ c.new-reader.ensures c.in_err-push.ensures.pushes) text)

pub returns-clause-accepts : goal.returns-clause-accepts
returns-clause-accepts g c = λ file text.
    let taken = c.in_ok-push.ensures.taken [] (subst (λ r. HasTaken r []) (sym c.new-reader.ensures) refl) in
    reads_as c.args.bytes.now file c.finish.result (c.finish.ensures.joined c.args.bytes.now taken) text

pub returns-in_err-push-clause-fault : goal.returns-in_err-push-clause-fault
returns-in_err-push-clause-fault g c = search rules

pub returns-clause-read : goal.returns-clause-read
returns-clause-read g c = search rules

pub returns-clause-fault : goal.returns-clause-fault
returns-clause-fault g c = search rules

use Rattle.std.proofs.Common.{◌≡◌, ap, Err}
use Rattle.schedule_text.specs.declared.schedule_fault.ScheduleFault.TheVariants.{Line}
use Rattle.schedule_text.proofs.answering.answer.Goals as goal

pub returns-in-Err-clause-line : goal.returns-in-Err-clause-line
returns-in-Err-clause-line c = λ n is.
    let same : c.in-Err.fault ≡ Line n = cc in
    c.in-Err.ensures.line n (ap (λ fault. Err fault) same)

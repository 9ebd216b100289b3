use Rattle.std.proofs.Common.{rules, ◌≡◌, ap, Err}
use Rattle.schedule_text.specs.declared.schedule_fault.ScheduleFault.TheVariants.{Line}
use Rattle.schedule_text.proofs.printing.print_answer.Goals as goal

pub returns-in-Err-Line-clause-line : goal.returns-in-Err-Line-clause-line
returns-in-Err-Line-clause-line g c = λ _.
    let same : c.in-Err-Line.field-0 ≡ Line c.in-Err-Line.number = cc in (
      c.in-Err-Line.number,
      c.in-Err-Line.ensures.line c.in-Err-Line.number (ap (λ fault. Err fault) same),
    )

pub returns-in-Err-Line-clause-unwritten : goal.returns-in-Err-Line-clause-unwritten
returns-in-Err-Line-clause-unwritten g c = search rules

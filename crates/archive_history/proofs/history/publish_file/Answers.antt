use Rattle.std.proofs.Common.{Err, ap, ◌∙◌}
use Rattle.archive_history.proofs.history.publish_file.Goals as goal

pub returns-in-Err-NotKept-clause-failed : goal.returns-in-Err-NotKept-clause-failed
returns-in-Err-NotKept-clause-failed g c = λ modelled undoes ne other nd.
    c.publish.ensures.not_kept modelled c.in-Err-NotKept.failed (c.in-Err-NotKept.is ∙ ap Err c.in-Err-NotKept.field-0-is) other nd

pub returns-in-Err-Rename-clause-failed : goal.returns-in-Err-Rename-clause-failed
returns-in-Err-Rename-clause-failed g c = λ modelled undoes ne other nd. c.publish.ensures.undone modelled undoes (c.in-Err-Rename.is ∙ ap Err c.in-Err-Rename.field-0-is) other nd

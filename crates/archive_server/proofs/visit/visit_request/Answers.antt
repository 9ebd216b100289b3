use Rattle.std.proofs.Common.{sym, ◌∙◌}
use Rattle.archive_wire.proofs.Growing.{grows_come, grows_quiet}
use Rattle.archive_server.proofs.Visits.{request_after, request_lost, request_quiet, request_failed}
use Rattle.archive_server.proofs.visit.visit_request.Goals as goal

pub returns-then-is_admitted-clause-visit : goal.returns-then-is_admitted-clause-visit
returns-then-is_admitted-clause-visit g c =
    request_after _ _ _ _ _ _ _ _ _ c.request.ensures (sym c.is_admitted.ensures ∙ c.if-is_admitted.true)
    (grows_come _ _ _ _ _ c.in-Ok-Some.field-0-is c.in-Ok-Some.ensures.calls) c.answer_request.ensures.visit

pub returns-else-is_admitted-clause-visit : goal.returns-else-is_admitted-clause-visit
returns-else-is_admitted-clause-visit g c =
    request_lost _ _ _ _ _ _ c.request.ensures (sym c.is_admitted.ensures ∙ c.if-is_admitted.false) (grows_come _ _ _ _ _ c.in-Ok-Some.field-0-is c.in-Ok-Some.ensures.calls)

pub returns-in-Ok-None-clause-visit : goal.returns-in-Ok-None-clause-visit
returns-in-Ok-None-clause-visit g c =
    request_quiet _ _ _ _ c.request.ensures (grows_quiet _ c.receive.new.buffer _ c.in-Ok-None.field-0-is c.in-Ok-None.ensures.calls)

pub returns-in-Err-clause-visit : goal.returns-in-Err-clause-visit
returns-in-Err-clause-visit g c = request_failed _ _ _ _ c.request.ensures c.in-Err.ensures.calls

use Rattle.std.proofs.Common.{sym}
use Rattle.archive_server.proofs.Visits.{request_step, request_unused, request_unopened}
use Rattle.archive_server.proofs.visit.answer_request.Goals as goal

pub returns-in-Ok-clause-visit : goal.returns-in-Ok-clause-visit
returns-in-Ok-clause-visit g c =
    request_step _ _ _ _ _ _ _ _ _
    (sym c.if-is_usable.ensures) c.on_request-step.ensures.server c.on_request-step.ensures.step c.in-Ok.ensures.calls c.end_request-visit.ensures.calls c.end_request-visit.ensures.taken c.end_request-visit.ensures.change

pub returns-in-Ok-2-clause-visit : goal.returns-in-Ok-2-clause-visit
returns-in-Ok-2-clause-visit g c = request_unused c.in-Ok.spare _ _ _ (sym c.if-is_usable.ensures) c.in-Ok.ensures.calls

pub returns-in-Err-clause-visit : goal.returns-in-Err-clause-visit
returns-in-Err-clause-visit g c = request_unopened _ _ _ c.in-Err.ensures.calls

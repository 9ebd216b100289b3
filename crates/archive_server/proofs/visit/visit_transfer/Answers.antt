use Rattle.archive_wire.proofs.Growing.{grows_come, grows_quiet}
use Rattle.archive_server.proofs.Visits.{transfer_step, transfer_quiet, transfer_failed}
use Rattle.archive_server.proofs.visit.visit_transfer.Goals as goal

pub returns-in-Ok-Some-clause-visit : goal.returns-in-Ok-Some-clause-visit
returns-in-Ok-Some-clause-visit g c =
    transfer_step _ _ _ _ _ _ _ _ _ _ c.is_peer-to_peer.ensures c.on_datagram-step.ensures.server c.on_datagram-step.ensures.step c.on_datagram-step.ensures.merges c.on_datagram-step.ensures.keeps
    (grows_come _ _ _ _ _ c.in-Ok-Some.field-0-is c.in-Ok-Some.ensures.calls) c.end_step-visit.ensures.calls c.end_step-visit.ensures.taken c.end_step-visit.ensures.change

pub returns-in-Ok-None-clause-visit : goal.returns-in-Ok-None-clause-visit
returns-in-Ok-None-clause-visit g c =
    transfer_quiet _ _ _ (grows_quiet _ c.receive.new.buffer _ c.in-Ok-None.field-0-is c.in-Ok-None.ensures.calls)

pub returns-in-Err-clause-visit : goal.returns-in-Err-clause-visit
returns-in-Err-clause-visit g c = transfer_failed _ _ _ c.in-Err.ensures.calls

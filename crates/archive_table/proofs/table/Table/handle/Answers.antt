use Rattle.std.proofs.Common.{sym, ap, ◌∙◌, Ok}
use Rattle.tftp_packet.specs.View.{decoded_of}
use Rattle.archive_table.specs.Table.{TableAnswer}
use Rattle.archive_table.specs.Table.{transfer_at}
use Rattle.archive_table.specs.Events.{made}
use Rattle.archive_table.proofs.Decoded.{packet_come, event_come}
use Rattle.archive_table.proofs.table.Table.handle.Goals as goal

pub returns-in-Ok-Error-clause-server : goal.returns-in-Ok-Error-clause-server
returns-in-Ok-Error-clause-server g c =
    let is = ap (λ p. decoded_of (Ok p)) (sym c.in-Ok-Error.field-0-is) ∙ c.in-Ok-Error.ensures.function in
    ap (λ (a : TableAnswer). a.server) (c.on_error.ensures.step c.in-Ok-Error.field-0-0 c.in-Ok-Error.field-0-1.now ∙ packet_come _ _ c.args.port c.args.from c.args.bytes.now c.args.self.now _ is)

pub returns-in-Ok-Error-clause-step : goal.returns-in-Ok-Error-clause-step
returns-in-Ok-Error-clause-step g c =
    let is = ap (λ p. decoded_of (Ok p)) (sym c.in-Ok-Error.field-0-is) ∙ c.in-Ok-Error.ensures.function in
    ap (λ (a : TableAnswer). a.step) (c.on_error.ensures.step c.in-Ok-Error.field-0-0 c.in-Ok-Error.field-0-1.now ∙ packet_come _ _ c.args.port c.args.from c.args.bytes.now c.args.self.now _ is)

pub returns-in-Ok-Read-clause-step : goal.returns-in-Ok-Read-clause-step
returns-in-Ok-Read-clause-step g c =
    let is = ap (λ p. decoded_of (Ok p)) (sym c.in-Ok-Read.field-0-is) ∙ c.in-Ok-Read.ensures.function in
    ap (λ (a : TableAnswer). a.step)
    (c.on_misplaced_request.ensures.reads c.in-Ok-Read.field-0-0.now c.in-Ok-Read.field-0-1.now ∙
    packet_come _ _ c.args.port c.args.from c.args.bytes.now c.args.self.now _ is)

pub returns-in-Ok-Write-clause-step : goal.returns-in-Ok-Write-clause-step
returns-in-Ok-Write-clause-step g c =
    let is = ap (λ p. decoded_of (Ok p)) (sym c.in-Ok-Write.field-0-is) ∙ c.in-Ok-Write.ensures.function in
    ap (λ (a : TableAnswer). a.step)
    (c.on_misplaced_request-in-Ok-Write.ensures.writes c.in-Ok-Write.field-0-0.now c.in-Ok-Write.field-0-1.now ∙
    packet_come _ _ c.args.port c.args.from c.args.bytes.now c.args.self.now _ is)

pub returns-in-Ok-Error-clause-event : goal.returns-in-Ok-Error-clause-event
returns-in-Ok-Error-clause-event g c =
    let is = ap (λ p. decoded_of (Ok p)) (sym c.in-Ok-Error.field-0-is) ∙ c.in-Ok-Error.ensures.function in
    event_come (transfer_at c.args.port c.args.self.now) c.args.from c.args.bytes.now c.args.self.now.maps c.on_error.new.self.maps (made c.on_error.new.step) c.on_error.new.step.event _ is
    (c.on_error.ensures.event c.in-Ok-Error.field-0-0 c.in-Ok-Error.field-0-1.now)

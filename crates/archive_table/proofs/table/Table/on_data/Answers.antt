use Rattle.std.proofs.Common.{refl, sym, ap, ◌∙◌}
use Rattle.archive_table.specs.Events.{Reported}
use Rattle.archive_table.specs.Table.{Table, grant_of, dgram_grant, refusal_dgram}
use Rattle.archive_table.specs.View.{table_of}
use Rattle.tftp_ends.specs.Ends.{granted}
use Rattle.tftp_packet.specs.declared.refusal.Refusal.{Refusal}
use Rattle.archive_table.proofs.Grants.{keeps_same, keeps_all, fault_grant}
use Rattle.archive_table.proofs.Replies.{data_reply, sent_grant}
use Rattle.archive_table.proofs.Serving.{set_fits}
use Rattle.archive_table.proofs.table.Table.on_data.Goals as goal

pub invariant_of-self-in-Err : goal.invariant_of-self-in-Err
invariant_of-self-in-Err g c = set_fits c.args.port _ (table_of c.self.inside) c.self.invariant c.on_data-came.ensures.fits

pub invariant_of-self-in-None : goal.invariant_of-self-in-None
invariant_of-self-in-None g c = set_fits c.args.port _ (table_of c.self.inside) c.self.invariant c.on_data-came.ensures.fits

pub invariant_of-self-in-Some-file : goal.invariant_of-self-in-Some-file
invariant_of-self-in-Some-file g c = set_fits c.args.port _ (table_of c.self.inside) c.self.invariant c.on_data-came.ensures.fits

pub returns-in-None-clause-fits : goal.returns-in-None-clause-fits
returns-in-None-clause-fits g c = set_fits c.args.port _ (table_of c.self.inside) c.self.invariant c.on_data-came.ensures.fits

pub returns-in-Err-clause-keeps : goal.returns-in-Err-clause-keeps
returns-in-Err-clause-keeps g c =
    let grant = ap (λ (t : Reported). grant_of t.out) c.fail.ensures.step ∙ ap (λ (w : Refusal). dgram_grant (refusal_dgram w)) c.refusal.ensures in
    keeps_same (grant_of c.fail.new.step.out) _ c.args.self.now.maps c.fail.new.self.maps _ _
    (λ e. fault_grant c.in-Err.fault (sym grant ∙ e))
    (ap (λ (s : Table). s.maps) (c.fail.ensures.server) ∙ ap (λ (s : Table). s.maps) c.self.view_is) refl

pub returns-in-None-clause-keeps : goal.returns-in-None-clause-keeps
returns-in-None-clause-keeps g c =
    keeps_all (grant_of c.set_out.new.self.out) _ c.args.self.now.maps _ _ _
    (ap (λ (t : Reported). grant_of t.out) c.set_out.ensures ∙ sent_grant c.args.port _ c.in-Ok.ack (data_reply granted c.args.n c.args.body.now _ c.in-Ok.ack c.in-Ok.ensures.sent))
    (ap (λ (s : Table). s.maps) c.self.view_is) refl

pub returns-then-not-is_with-clause-keeps : goal.returns-then-not-is_with-clause-keeps
returns-then-not-is_with-clause-keeps g c =
    keeps_all (grant_of c.answer_stranger.new.self.out) _ c.args.self.now.maps _ _ _ c.answer_stranger.ensures.grant (ap (λ (s : Table). s.maps) c.self.view_is) refl

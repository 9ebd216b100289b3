use Rattle.std.proofs.Common.{sym, ap, subst, rules}
use Rattle.std.specs.Prelude.{◌≡◌, Some}
use Rattle.tftp_packet.specs.declared.refusal.Refusal.TheVariants.{NotKept}
use Rattle.archive_table.specs.Events.{Reported}
use Rattle.archive_table.specs.Table.{Table, Grant, grant_of, dgram_grant, refusal_dgram}
use Rattle.archive_table.specs.Keeper.{StepKeeps, RefusesFile}
use Rattle.archive_table.proofs.Grants.{other_refusal, refused_keeps}
use Rattle.archive_table.proofs.table.Table.on_file.Goals as goal

pub returns-in-Err-clause-keeps : goal.returns-in-Err-clause-keeps
returns-in-Err-clause-keeps g c =
    let file = c.args.file in
    let wanted = Some (record { peer = c.args.peer; file = file }) in
    let was = g.K.Keeper.calls c.args.keeper.now in
    let now = g.K.Keeper.calls c.merge_file.new.keeper in
    let grant : grant_of c.fail.new.step.out ≡ dgram_grant (refusal_dgram c.in-Err.why) = ap (λ (t : Reported). grant_of t.out) c.fail.ensures.step in
    let refused : RefusesFile c.in-Err.why file c.args.self.now.maps was now = subst (λ (s : Table). RefusesFile c.in-Err.why file s.maps was now) c.self.view_is c.in-Err.ensures.unkept in
    subst (λ (g : Grant). StepKeeps g wanted c.args.self.now.maps c.fail.new.self.maps was now) (sym grant)
    (refused_keeps c.in-Err.why c.args.peer file c.args.self.now.maps c.fail.new.self.maps was now refused)

pub returns-in-Err-clause-untouched : goal.returns-in-Err-clause-untouched
returns-in-Err-clause-untouched g c = λ other same.
    let grant : grant_of c.fail.new.step.out ≡ dgram_grant (refusal_dgram c.in-Err.why) = ap (λ (t : Reported). grant_of t.out) c.fail.ensures.step in
    c.in-Err.ensures.untouched (λ is. let not : c.in-Err.why ≡ NotKept = cc in other_refusal c.in-Err.why (grant_of c.fail.new.step.out) grant other not) c.in-Err.ensures.lynx c.in-Err.ensures.ms

pub returns-in-Err-clause-server : goal.returns-in-Err-clause-server
returns-in-Err-clause-server g c = search rules

pub returns-in-Err-clause-step : goal.returns-in-Err-clause-step
returns-in-Err-clause-step g c = search rules

pub returns-in-Ok-clause-keeps : goal.returns-in-Ok-clause-keeps
returns-in-Ok-clause-keeps g c = search rules

pub returns-in-Ok-clause-untouched : goal.returns-in-Ok-clause-untouched
returns-in-Ok-clause-untouched g c = search rules

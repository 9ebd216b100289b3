use Rattle.std.proofs.Common.{sym, ap, ◌∙◌, subst}
use Rattle.std.specs.Prelude.{◌≢◌}
use Rattle.archive_table.specs.Table.{Table, transfer_at, has_slot}
use Rattle.archive_table.specs.View.{table_of, end_of}
use Rattle.archive_table.proofs.Serving.{inserted_fits}
use Rattle.archive_table.proofs.table.Table.open.Goals as goal

pub invariant_of-self : goal.invariant_of-self
invariant_of-self g c =
    let s = table_of c.self.inside in
    inserted_fits c.args.spare c.insert.new.self (record { peer = c.args.from; end = end_of c.args.end }) s c.self.invariant c.in-Ok.ensures.inserted c.requires.end
    (subst (λ (t : Table). c.args.spare ≢ t.request) (sym c.self.view_is) c.requires.other)
    (ap (transfer_at c.args.spare) c.self.view_is ∙ c.requires.free)
    (ap has_slot c.self.view_is ∙ c.requires.slot)

pub returns-in-Ok-clause-fits : goal.returns-in-Ok-clause-fits
returns-in-Ok-clause-fits g c =
    let s = table_of c.self.inside in
    inserted_fits c.args.spare c.insert.new.self (record { peer = c.args.from; end = end_of c.args.end }) s c.self.invariant c.in-Ok.ensures.inserted c.requires.end
    (subst (λ (t : Table). c.args.spare ≢ t.request) (sym c.self.view_is) c.requires.other)
    (ap (transfer_at c.args.spare) c.self.view_is ∙ c.requires.free)
    (ap has_slot c.self.view_is ∙ c.requires.slot)

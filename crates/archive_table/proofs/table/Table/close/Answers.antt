use Rattle.archive_table.specs.View.{table_of}
use Rattle.archive_table.proofs.Serving.{removed_fits}
use Rattle.archive_table.proofs.table.Table.close.Goals as goal

pub invariant_of-self : goal.invariant_of-self
invariant_of-self g c = removed_fits c.args.port c.remove.new.self (table_of c.self.inside) c.self.invariant c.remove.ensures

pub returns-clause-fits : goal.returns-clause-fits
returns-clause-fits g c = removed_fits c.args.port c.remove.new.self (table_of c.self.inside) c.self.invariant c.remove.ensures

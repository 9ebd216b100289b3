use Rattle.archive_table.specs.View.{table_of}
use Rattle.archive_table.proofs.Serving.{set_fits}
use Rattle.archive_table.proofs.table.Table.on_ack.Goals as goal

pub invariant_of-self-then-advance : goal.invariant_of-self-then-advance
invariant_of-self-then-advance g c = set_fits c.args.port _ (table_of c.self.inside) c.self.invariant c.advance.ensures.fits

pub returns-then-advance-clause-fits : goal.returns-then-advance-clause-fits
returns-then-advance-clause-fits g c = set_fits c.args.port _ (table_of c.self.inside) c.self.invariant c.advance.ensures.fits

pub invariant_of-self-in-Finished : goal.invariant_of-self-in-Finished
invariant_of-self-in-Finished g c = set_fits c.args.port _ (table_of c.self.inside) c.self.invariant c.advance.ensures.fits

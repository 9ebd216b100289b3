use Rattle.archive_table.specs.View.{table_of}
use Rattle.archive_table.proofs.Serving.{set_fits}
use Rattle.archive_table.proofs.table.Table.time_out.Goals as goal

pub invariant_of-self-in-Running : goal.invariant_of-self-in-Running
invariant_of-self-in-Running g c = set_fits c.args.port _ (table_of c.self.inside) c.self.invariant c.on_timeout.ensures.fits

pub invariant_of-self-in-Finished : goal.invariant_of-self-in-Finished
invariant_of-self-in-Finished g c = set_fits c.args.port _ (table_of c.self.inside) c.self.invariant c.on_timeout.ensures.fits

pub invariant_of-self-in-Running-state : goal.invariant_of-self-in-Running-state
invariant_of-self-in-Running-state g c = set_fits c.args.port _ (table_of c.self.inside) c.self.invariant c.on_timeout-in-Receiving.ensures.fits

pub invariant_of-self-in-TimedOut : goal.invariant_of-self-in-TimedOut
invariant_of-self-in-TimedOut g c = set_fits c.args.port _ (table_of c.self.inside) c.self.invariant c.on_timeout-in-Receiving.ensures.fits

pub returns-in-Running-clause-fits : goal.returns-in-Running-clause-fits
returns-in-Running-clause-fits g c = set_fits c.args.port _ (table_of c.self.inside) c.self.invariant c.on_timeout.ensures.fits

pub returns-in-Running-state-clause-fits : goal.returns-in-Running-state-clause-fits
returns-in-Running-state-clause-fits g c = set_fits c.args.port _ (table_of c.self.inside) c.self.invariant c.on_timeout-in-Receiving.ensures.fits

use Rattle.archive_table.specs.declared.keys.TheConstants.{EMPTY_CACHE}
use Rattle.archive_table.specs.Keys.{IsCached}
use Rattle.archive_table.proofs.Cached.{none_cached}
use Rattle.archive_table.proofs.keys.Keys.new.Goals as goal

pub invariant_of-result : goal.invariant_of-result
invariant_of-result g c slot = none_cached (IsCached c.new.result.entries slot) EMPTY_CACHE tt slot

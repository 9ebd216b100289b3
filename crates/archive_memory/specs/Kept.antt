-- The plain value of an entry of a keeper in memory.
use Rattle.archive_memory.specs.declared.kept.Kept.TheInside as keepings
use Rattle.archive_table.specs.Keeper.{Keeping}

abbrev pub keeping_of : {A : Type 0} → keepings.Inside A → Keeping
keeping_of k = record { «ruleset» = k.ruleset; text = k.text.items; ok = k.ok }

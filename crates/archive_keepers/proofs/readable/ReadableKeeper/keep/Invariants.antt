use Rattle.std.specs.Prelude.{◌++◌}
use Rattle.tws_best.specs.Best.{collection_text}
use Rattle.archive_table.specs.Keeper.{kept_by}
use Rattle.archive_keepers.proofs.readable.ReadableKeeper.keep.Given as goal

abbrev pub ghost-of : goal.ghost-of
ghost-of g a = a._seen.now.0.now.entries ++ kept_by a._seen.now.3.now a._seen.now.1 (collection_text a._seen.now.2.now)

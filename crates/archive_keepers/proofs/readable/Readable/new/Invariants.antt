use Rattle.std.specs.Prelude.{[], unwrap_or}
use Rattle.archive_keepers.proofs.readable.Readable.new.Given as goal

abbrev pub ghost-of : goal.ghost-of
ghost-of g a = unwrap_or (g.K.Keeper.calls a._seen.now) []

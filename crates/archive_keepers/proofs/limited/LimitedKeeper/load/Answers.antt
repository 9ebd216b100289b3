use Rattle.std.proofs.Common.{rules}
use Rattle.archive_keepers.proofs.limited.LimitedKeeper.load.Goals as goal

pub returns-clause-below : goal.returns-clause-below
returns-clause-below g c = search rules

pub returns-clause-text : goal.returns-clause-text
returns-clause-text g c = search rules

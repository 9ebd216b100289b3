use Rattle.std.proofs.Common.{rules}
use Rattle.refusing.proofs.Refusing.new.Goals as goal

pub returns-clause-nth : goal.returns-clause-nth
returns-clause-nth g c = search rules

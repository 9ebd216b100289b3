use Rattle.std.proofs.Common.{rules}
use Rattle.tws_best.proofs.rank.RankOrd.cmp.Goals as goal

pub returns-then-is_eq : goal.returns-then-is_eq
returns-then-is_eq c = search rules

use Rattle.std.proofs.Common.{arith}
use Rattle.tws_best.proofs.Lengths.{all_small}
use Rattle.tws_best.proofs.bodies.Bodies.records_len.Goals as goal

pub returns-clause-small : goal.returns-clause-small
returns-clause-small g c = omega (arith, all_small c.self.inside.map.entries c.self.invariant.sized (omega (arith, c.len-count.ensures.small, c.len-count.ensures.len)), c.self.invariant.len)

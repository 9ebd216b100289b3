use Rattle.std.proofs.Common.{arith, ap}
use Rattle.tws_moves.specs.Move.{Move}
use Rattle.tws_moves.proofs.Waits.{wait_is}
use Rattle.tws_moves.proofs.wait.Wait.of.Goals as goal

pub returns : goal.returns
returns c =
    wait_is c.args.moves.now c.args.index _ _ c.index-moves-index.result c.index-moves-index-2.result _ (omega arith)
    (omega arith) c.index-moves-index.is c.index-moves-index-2.is
    (omega (arith, ap (λ (m : Move). m.at) c.this.view_is, ap (λ (m : Move). m.at) c.before-2.view_is))
    (ap (λ (m : Move). m.act) c.this.view_is)

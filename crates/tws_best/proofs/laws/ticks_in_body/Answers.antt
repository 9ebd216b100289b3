use Rattle.tws_best.proofs.Ticks.{ticks_in}
use Rattle.tws_best.proofs.laws.ticks_in_body.Goals as goal

pub returns : goal.returns
returns c = ticks_in

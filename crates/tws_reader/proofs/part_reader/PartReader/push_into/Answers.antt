use Rattle.std.proofs.Common.{◌∙◌, ap, sym}
use Rattle.tws_reader.proofs.InParts.{stays_stopped}
use Rattle.tws_reader.proofs.part_reader.PartReader.push_into.Goals as goal

pub returns-in-Some-clause-fault : goal.returns-in-Some-clause-fault
returns-in-Some-clause-fault g c = λ other. stays_stopped c.args.self.now c.args.piece.now c.in-Some.fault (ap (λ p. p.fault) (sym c.self.view_is) ∙ c.in-Some.is)

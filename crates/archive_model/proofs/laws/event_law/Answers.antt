use Rattle.std.proofs.Common.{rules}
use Rattle.archive_model.proofs.Growing.{step-adds, run-extends}
use Rattle.archive_model.proofs.Entries.{stray-is_in, delivery-keeps}
use Rattle.archive_model.proofs.laws.event_law.Goals as goal

pub returns-clause-grows : goal.returns-clause-grows
returns-clause-grows c = λ w steps. run-extends steps w

pub returns-clause-adds : goal.returns-clause-adds
returns-clause-adds c = step-adds

pub returns-clause-stray : goal.returns-clause-stray
returns-clause-stray c = stray-is_in

pub returns-clause-keeps : goal.returns-clause-keeps
returns-clause-keeps c = delivery-keeps

pub returns-clause-restart : goal.returns-clause-restart
returns-clause-restart c = search rules

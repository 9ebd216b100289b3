use Rattle.archive_theorem.proofs.Event_Happens.{merged-as}
use Rattle.archive_theorem.proofs.Effect_Steps.{puts-at, gets-at}
use Rattle.archive_theorem.proofs.Headline_Since.{fetches-own_sent}
use Rattle.archive_theorem.proofs.Effect_Order.{fetches-no_less, fetches-none}
use Rattle.archive_theorem.proofs.laws.effects_law.Goals as goal

pub returns-clause-puts : goal.returns-clause-puts
returns-clause-puts c = puts-at

pub returns-clause-gets : goal.returns-clause-gets
returns-clause-gets c = gets-at

pub returns-clause-since : goal.returns-clause-since
returns-clause-since c = λ o r before after s split. fetches-own_sent o before after s (merged-as o r _ split)

pub returns-clause-no_less : goal.returns-clause-no_less
returns-clause-no_less c = λ o r before after s split. fetches-no_less o before after s (merged-as o r _ split)

pub returns-clause-none : goal.returns-clause-none
returns-clause-none c = λ o r before after s split. fetches-none o before after s (merged-as o r _ split)

use Rattle.std.proofs.Common.{List, subst}
use Rattle.archive_model.specs.World.{WorldStep, empty_origin, first_world, run_from}
use Rattle.archive_theorem.specs.Headline.{HasOwnPorts}
use Rattle.archive_theorem.proofs.Event_Happens.{merged-as}
use Rattle.archive_theorem.proofs.Headline_Begun.{began-by}
use Rattle.archive_theorem.proofs.Headline_Costs.{run-sends}
use Rattle.archive_theorem.proofs.Headline_Strays.{strays-by}
use Rattle.archive_theorem.proofs.Headline_Clients.{run-clients, run-headline}
use Rattle.archive_theorem.proofs.Headline_Since.{fetches-sent}
use Rattle.archive_theorem.proofs.Headline_Total.{run-total, run-one}
use Rattle.archive_theorem.proofs.laws.network_law.Goals as goal

pub returns-clause-clients : goal.returns-clause-clients
returns-clause-clients c = run-clients

pub returns-clause-headline : goal.returns-clause-headline
returns-clause-headline c = run-headline

pub returns-clause-since : goal.returns-clause-since
returns-clause-since c = λ home r own before after s split.
    fetches-sent home before after s (subst (λ (l : List WorldStep). HasOwnPorts (run_from l (first_world (empty_origin home)))) split own)
    (merged-as (empty_origin home) r _ split)

pub returns-clause-began : goal.returns-clause-began
returns-clause-began c = began-by

pub returns-clause-cost : goal.returns-clause-cost
returns-clause-cost c = run-sends

pub returns-clause-total : goal.returns-clause-total
returns-clause-total c = run-total

pub returns-clause-one : goal.returns-clause-one
returns-clause-one c = run-one

pub returns-clause-strays : goal.returns-clause-strays
returns-clause-strays c = strays-by

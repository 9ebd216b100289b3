use Rattle.archive_model.specs.World.{happens}
use Rattle.archive_theorem.proofs.Claim_Owns.{own-before, own-each, none_reused-before}
use Rattle.archive_theorem.proofs.Port_Tests.{start-own, begin-keeps_own, opening-keeps_own, stray-keeps_own}
use Rattle.archive_theorem.proofs.Port_Endpoints.{own-by_tests, start-own_each}
use Rattle.archive_model.proofs.Growing.{step-extends}
use Rattle.archive_theorem.proofs.laws.own_ports.Goals as goal

pub returns-clause-start : goal.returns-clause-start
returns-clause-start c = start-own

pub returns-clause-begin : goal.returns-clause-begin
returns-clause-begin c = begin-keeps_own

pub returns-clause-opening : goal.returns-clause-opening
returns-clause-opening c = opening-keeps_own

pub returns-clause-stray : goal.returns-clause-stray
returns-clause-stray c = stray-keeps_own

pub returns-clause-before : goal.returns-clause-before
returns-clause-before c = λ w s own. none_reused-before w (happens s w) (step-extends w s) own

pub returns-clause-tests : goal.returns-clause-tests
returns-clause-tests c = own-by_tests

pub returns-clause-own_start : goal.returns-clause-own_start
returns-clause-own_start c = start-own_each

pub returns-clause-own_before : goal.returns-clause-own_before
returns-clause-own_before c = λ w s e own. own-before (step-extends w s) e own

pub returns-clause-each : goal.returns-clause-each
returns-clause-each c = own-each

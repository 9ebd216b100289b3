use Rattle.mirror_worlds.proofs.Carrying.{was-fetched, carried-out, was-put}
use Rattle.mirror_worlds.proofs.Bringing.{brings-all}
use Rattle.mirror_worlds.proofs.Sampling.{sync-can}
use Rattle.mirror_worlds.proofs.laws.syncing.Goals as goal

pub returns-clause-fetches : goal.returns-clause-fetches
returns-clause-fetches c = was-fetched

pub returns-clause-forth : goal.returns-clause-forth
returns-clause-forth c = λ from to asked told before after news ws events here f own m both.
    carried-out ws events here f own news.first news.second told.forth m both news.is_told.forth_is

pub returns-clause-back : goal.returns-clause-back
returns-clause-back c = λ from to asked told before after news ws events here f own m both.
    carried-out ws events here f own news.second news.first told.back m both news.is_told.back_is

pub returns-clause-put : goal.returns-clause-put
returns-clause-put c = was-put

pub returns-clause-brings : goal.returns-clause-brings
returns-clause-brings c = brings-all

pub returns-clause-sample : goal.returns-clause-sample
returns-clause-sample c = sync-can

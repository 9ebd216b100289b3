use Rattle.mirror_worlds.proofs.Making.{start-matches, origin-matches, step-joins, skip-matches, sent-lasts, all-converge, fetched-copy, server-best, servers-alike}
use Rattle.mirror_worlds.proofs.laws.joining.Goals as goal

pub returns-clause-start : goal.returns-clause-start
returns-clause-start c = start-matches

pub returns-clause-step : goal.returns-clause-step
returns-clause-step c = step-joins

pub returns-clause-fetched : goal.returns-clause-fetched
returns-clause-fetched c = fetched-copy

pub returns-clause-server : goal.returns-clause-server
returns-clause-server c = server-best

pub returns-clause-alike : goal.returns-clause-alike
returns-clause-alike c = servers-alike

pub returns-clause-skip : goal.returns-clause-skip
returns-clause-skip c = skip-matches

pub returns-clause-folder : goal.returns-clause-folder
returns-clause-folder c = origin-matches

pub returns-clause-all : goal.returns-clause-all
returns-clause-all c = all-converge

pub returns-clause-sent : goal.returns-clause-sent
returns-clause-sent c = sent-lasts

use Rattle.std.proofs.lemmas.Result.{on_ok_weaker}
use Rattle.archive_durable.proofs.Calls.{starts-with}
use Rattle.archive_durable.proofs.keeping.clear_drafts.Goals as goal

pub returns-clause-starts : goal.returns-clause-starts
returns-clause-starts g c = λ modelled text files.
    on_ok_weaker c.clear_drafts.result (λ settled. starts-with g.F.Folder.model _ _ text files (c.clear_drafts.ensures.kept modelled) settled)
    (c.clear_drafts.ensures.settled modelled)

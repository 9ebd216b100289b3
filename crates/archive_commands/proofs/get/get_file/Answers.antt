use Rattle.std.proofs.Common.{refl, inl, inr}
use Rattle.archive_commands.proofs.Fetching.{fetch_fails, get_ended}
use Rattle.archive_commands.proofs.get.get_file.Goals as goal

pub returns-in-Ok-said-clause-got : goal.returns-in-Ok-said-clause-got
returns-in-Ok-said-clause-got g c =
    get_ended _ _ _ _ _ _ _ _ _ _ _ _ _ _ _ c.in-Ok.ensures.begun c.in-Ok.ensures.kept c.in-Ok-fetch.ensures.fetched c.in-Ok-said.ensures.said c.dally.ensures

pub returns-in-Ok-fetch-clause-fails : goal.returns-in-Ok-fetch-clause-fails
returns-in-Ok-fetch-clause-fails g c =
    inr (inr (get_ended _ _ _ _ _ _ _ _ _ _ _ _ _ _ _ c.in-Ok.ensures.begun c.in-Ok.ensures.kept c.in-Ok-fetch.ensures.fetched c.in-Err-said.ensures.fails c.dally.ensures))

pub returns-clause-fails : goal.returns-clause-fails
returns-clause-fails g c = inr (inl (fetch_fails _ _ _ _ _ _ _ _ c.in-Ok.ensures.kept c.in-Err-fetch.ensures.fails, refl))

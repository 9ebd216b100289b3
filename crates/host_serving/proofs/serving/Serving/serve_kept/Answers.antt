use Rattle.std.proofs.Common.{true, refl}
use Rattle.archive_serving.proofs.Listening.{unopened}
use Rattle.host_serving.proofs.serving.Serving.serve_kept.Goals as goal

pub returns-in-None-clause-served : goal.returns-in-None-clause-served
returns-in-None-clause-served g c = (true, unopened _ _ _ _ _ _ _ _ _ _ _ _ refl refl refl)

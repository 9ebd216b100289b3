use Rattle.std.proofs.Common.{refl}
use Rattle.archive_serving.proofs.Listening.{unopened}
use Rattle.host_serving.proofs.serving.Serving.serve_observed.Goals as goal

pub returns-in-Err-clause-served : goal.returns-in-Err-clause-served
returns-in-Err-clause-served g c =
    let keeper = c.args.keeper.keeper in
    (keeper.keeper, keeper.entries, unopened _ _ _ _ _ _ _ _ _ _ _ _ c.no_port.ensures refl refl)

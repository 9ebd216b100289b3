use Rattle.std.proofs.lemmas.Result.{IfOk-weaker}
use Rattle.clap.specs.Words.{with_rule}
use Rattle.archive_commands.specs.Sync.{both_rule, new_archives_rule, sync_places_app}
use Rattle.command_line.proofs.Building.{adds_rule, stays_local}
use Rattle.archive_commands.proofs.sync.command.Goals as goal

pub returns-clause-app : goal.returns-clause-app
returns-clause-app c =
    let first = adds_rule _ _ _ sync_places_app both_rule c.in_ok-places_command.ensures.app c.flag_argument.ensures.rule c.flag_argument.ensures.local c.in_ok-arg.ensures in
    IfOk-weaker c.arg-2.result _ _
    (λ command adds. adds_rule _ _ command (with_rule sync_places_app both_rule) new_archives_rule first c.flag_argument-2.ensures.rule c.flag_argument-2.ensures.local adds)
    c.arg-2.ensures

pub returns-clause-local : goal.returns-clause-local
returns-clause-local c =
    let first = stays_local _ _ _ c.in_ok-places_command.ensures.local c.flag_argument.ensures.local c.in_ok-arg.ensures in
    IfOk-weaker c.arg-2.result _ _ (λ command adds. stays_local _ _ command first c.flag_argument-2.ensures.local adds) c.arg-2.ensures

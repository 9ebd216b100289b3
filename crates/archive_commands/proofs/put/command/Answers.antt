use Rattle.std.proofs.lemmas.Result.{IfOk-weaker}
use Rattle.archive_commands.specs.Put.{better_rule, sending_app}
use Rattle.command_line.proofs.Building.{adds_rule, stays_local}
use Rattle.archive_commands.proofs.put.command.Goals as goal

pub returns-clause-app : goal.returns-clause-app
returns-clause-app c =
    IfOk-weaker c.arg.result _ _
    (λ command adds. adds_rule _ _ command sending_app better_rule c.in_ok-sending_command.ensures.app c.flag_argument.ensures.rule c.flag_argument.ensures.local adds)
    c.arg.ensures

pub returns-clause-local : goal.returns-clause-local
returns-clause-local c =
    IfOk-weaker c.arg.result _ _ (λ command adds. stays_local _ _ command c.in_ok-sending_command.ensures.local c.flag_argument.ensures.local adds) c.arg.ensures

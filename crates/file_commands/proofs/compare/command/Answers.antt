use Rattle.std.proofs.lemmas.Result.{IfOk-weaker}
use Rattle.show_commands.specs.Output.{output_rule}
use Rattle.file_commands.specs.Compare.{compared_app}
use Rattle.command_line.proofs.Building.{adds_rule, stays_local}
use Rattle.file_commands.proofs.compare.command.Goals as goal

pub returns-clause-app : goal.returns-clause-app
returns-clause-app c =
    IfOk-weaker c.arg.result _ _
    (λ command adds. adds_rule _ _ command compared_app output_rule c.in_ok-compared_command.ensures.app c.output_argument.ensures.rule c.output_argument.ensures.local adds)
    c.arg.ensures

pub returns-clause-local : goal.returns-clause-local
returns-clause-local c =
    IfOk-weaker c.arg.result _ _ (λ command adds. stays_local _ _ command c.in_ok-compared_command.ensures.local c.output_argument.ensures.local adds) c.arg.ensures

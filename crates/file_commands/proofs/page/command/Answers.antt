use Rattle.std.proofs.lemmas.Result.{IfOk-weaker}
use Rattle.show_commands.specs.Output.{output_rule}
use Rattle.file_commands.specs.Page.{paged_app}
use Rattle.command_line.proofs.Building.{adds_rule, stays_local}
use Rattle.file_commands.proofs.page.command.Goals as goal

pub returns-clause-app : goal.returns-clause-app
returns-clause-app c =
    IfOk-weaker c.arg.result _ _
    (λ command adds. adds_rule _ _ command paged_app output_rule c.in_ok-paged_command.ensures.app c.output_argument.ensures.rule c.output_argument.ensures.local adds)
    c.arg.ensures

pub returns-clause-local : goal.returns-clause-local
returns-clause-local c =
    IfOk-weaker c.arg.result _ _ (λ command adds. stays_local _ _ command c.in_ok-paged_command.ensures.local c.output_argument.ensures.local adds) c.arg.ensures

use Rattle.std.proofs.lemmas.Result.{IfOk-weaker}
use Rattle.show_commands.specs.Output.{output_rule}
use Rattle.show_commands.specs.Show.{listing_app}
use Rattle.command_line.proofs.Building.{adds_rule, stays_local}
use Rattle.show_commands.proofs.show.command.Goals as goal

pub returns-clause-app : goal.returns-clause-app
returns-clause-app c =
    IfOk-weaker c.arg.result _ _
    (λ command adds. adds_rule _ _ command listing_app output_rule c.in_ok-listing_command.ensures.app c.output_argument.ensures.rule c.output_argument.ensures.local adds)
    c.arg.ensures

pub returns-clause-local : goal.returns-clause-local
returns-clause-local c =
    IfOk-weaker c.arg.result _ _ (λ command adds. stays_local _ _ command c.in_ok-listing_command.ensures.local c.output_argument.ensures.local adds) c.arg.ensures

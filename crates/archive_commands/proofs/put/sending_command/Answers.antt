use Rattle.std.proofs.lemmas.Result.{IfOk-weaker}
use Rattle.clap.specs.Words.{new_app, with_rule}
use Rattle.archive_commands.specs.Arguments.{address_rule}
use Rattle.archive_arguments.specs.Arguments.{number_rule, port_option}
use Rattle.command_line.specs.Arguments.{files_rule}
use Rattle.archive_commands.specs.Put.{put_name}
use Rattle.command_line.proofs.Building.{adds_rule, stays_local}
use Rattle.archive_commands.proofs.put.sending_command.Goals as goal

pub returns-clause-app : goal.returns-clause-app
returns-clause-app c =
    let none = new_app put_name in
    let one = with_rule none address_rule in
    let first = adds_rule _ _ _ none address_rule c.new_command.ensures.app c.address_argument.ensures.rule c.address_argument.ensures.local c.in_ok-arg.ensures in
    let second = adds_rule _ _ _ one files_rule first c.files_argument.ensures.rule c.files_argument.ensures.local c.in_ok-arg-2.ensures in
    IfOk-weaker c.arg-3.result _ _
    (λ command adds. adds_rule _ _ command (with_rule one files_rule) (number_rule port_option) second c.port_argument.ensures.rule c.port_argument.ensures.local adds)
    c.arg-3.ensures

pub returns-clause-local : goal.returns-clause-local
returns-clause-local c =
    let first = stays_local _ _ _ c.new_command.ensures.local c.address_argument.ensures.local c.in_ok-arg.ensures in
    let second = stays_local _ _ _ first c.files_argument.ensures.local c.in_ok-arg-2.ensures in
    IfOk-weaker c.arg-3.result _ _ (λ command adds. stays_local _ _ command second c.port_argument.ensures.local adds) c.arg-3.ensures

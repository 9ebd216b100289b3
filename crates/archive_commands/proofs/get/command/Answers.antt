use Rattle.std.proofs.lemmas.Result.{IfOk-weaker}
use Rattle.clap.specs.Words.{new_app, with_rule}
use Rattle.command_line.specs.Arguments.{ruleset_rule}
use Rattle.archive_commands.specs.Arguments.{address_rule, file_rule}
use Rattle.archive_arguments.specs.Arguments.{number_rule, port_option}
use Rattle.archive_commands.specs.Get.{get_name}
use Rattle.command_line.proofs.Building.{adds_rule, stays_local}
use Rattle.archive_commands.proofs.get.command.Goals as goal

pub returns-clause-app : goal.returns-clause-app
returns-clause-app c =
    let none = new_app get_name in
    let one = with_rule none address_rule in
    let two = with_rule one (ruleset_rule c.args.names) in
    let first = adds_rule _ _ _ none address_rule c.new_command.ensures.app c.address_argument.ensures.rule c.address_argument.ensures.local c.in_ok-arg.ensures in
    let second = adds_rule _ _ _ one (ruleset_rule c.args.names) first c.ruleset_argument.ensures.rule c.ruleset_argument.ensures.local c.in_ok-arg-2.ensures in
    let third = adds_rule _ _ _ two file_rule second c.file_argument.ensures.rule c.file_argument.ensures.local c.in_ok-arg-3.ensures in
    IfOk-weaker c.arg-4.result _ _
    (λ command adds. adds_rule _ _ command (with_rule two file_rule) (number_rule port_option) third c.port_argument.ensures.rule c.port_argument.ensures.local adds)
    c.arg-4.ensures

pub returns-clause-local : goal.returns-clause-local
returns-clause-local c =
    let first = stays_local _ _ _ c.new_command.ensures.local c.address_argument.ensures.local c.in_ok-arg.ensures in
    let second = stays_local _ _ _ first c.ruleset_argument.ensures.local c.in_ok-arg-2.ensures in
    let third = stays_local _ _ _ second c.file_argument.ensures.local c.in_ok-arg-3.ensures in
    IfOk-weaker c.arg-4.result _ _ (λ command adds. stays_local _ _ command third c.port_argument.ensures.local adds) c.arg-4.ensures

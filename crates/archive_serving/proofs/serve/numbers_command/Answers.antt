use Rattle.std.proofs.lemmas.Result.{IfOk-weaker}
use Rattle.clap.specs.Words.{new_app, with_rule}
use Rattle.archive_arguments.specs.Arguments.{number_rule, port_option}
use Rattle.archive_serving.specs.Serve.{limit_option, per_host_option, serve_name, turns_option}
use Rattle.command_line.proofs.Building.{adds_rule, stays_local}
use Rattle.archive_serving.proofs.serve.numbers_command.Goals as goal

pub returns-clause-app : goal.returns-clause-app
returns-clause-app c =
    let none = new_app serve_name in
    let one = with_rule none (number_rule port_option) in
    let two = with_rule one (number_rule turns_option) in
    let three = with_rule two (number_rule per_host_option) in
    let first = adds_rule _ _ _ none (number_rule port_option) c.new_command.ensures.app c.port_argument.ensures.rule c.port_argument.ensures.local c.in_ok-arg.ensures in
    let second = adds_rule _ _ _ one (number_rule turns_option) first c.turns_argument.ensures.rule c.turns_argument.ensures.local c.in_ok-arg-2.ensures in
    let third = adds_rule _ _ _ two (number_rule per_host_option) second c.per_host_argument.ensures.rule c.per_host_argument.ensures.local c.in_ok-arg-3.ensures in
    IfOk-weaker c.arg-4.result _ _
    (λ command adds. adds_rule _ _ command three (number_rule limit_option) third c.limit_argument.ensures.rule c.limit_argument.ensures.local adds)
    c.arg-4.ensures

pub returns-clause-local : goal.returns-clause-local
returns-clause-local c =
    let first = stays_local _ _ _ c.new_command.ensures.local c.port_argument.ensures.local c.in_ok-arg.ensures in
    let second = stays_local _ _ _ first c.turns_argument.ensures.local c.in_ok-arg-2.ensures in
    let third = stays_local _ _ _ second c.per_host_argument.ensures.local c.in_ok-arg-3.ensures in
    IfOk-weaker c.arg-4.result _ _ (λ command adds. stays_local _ _ command third c.limit_argument.ensures.local adds) c.arg-4.ensures

use Rattle.std.proofs.lemmas.Result.{IfOk-weaker}
use Rattle.clap.specs.Words.{new_app, with_rule}
use Rattle.archive_arguments.specs.Arguments.{number_rule, port_option}
use Rattle.archive_commands.specs.Sync.{from_rule, sync_name, to_port_option, to_rule}
use Rattle.command_line.proofs.Building.{adds_rule, stays_local}
use Rattle.archive_commands.proofs.sync.places_command.Goals as goal

pub returns-clause-app : goal.returns-clause-app
returns-clause-app c =
    let none = new_app sync_name in
    let one = with_rule none from_rule in
    let two = with_rule one to_rule in
    let three = with_rule two (number_rule port_option) in
    let first = adds_rule _ _ _ none from_rule c.new_command.ensures.app c.place_argument.ensures.rule c.place_argument.ensures.local c.in_ok-arg.ensures in
    let second = adds_rule _ _ _ one to_rule first c.place_argument-2.ensures.rule c.place_argument-2.ensures.local c.in_ok-arg-2.ensures in
    let third = adds_rule _ _ _ two (number_rule port_option) second c.port_argument.ensures.rule c.port_argument.ensures.local c.in_ok-arg-3.ensures in
    IfOk-weaker c.arg-4.result _ _
    (λ command adds. adds_rule _ _ command three (number_rule to_port_option) third c.to_port_argument.ensures.rule c.to_port_argument.ensures.local adds)
    c.arg-4.ensures

pub returns-clause-local : goal.returns-clause-local
returns-clause-local c =
    let first = stays_local _ _ _ c.new_command.ensures.local c.place_argument.ensures.local c.in_ok-arg.ensures in
    let second = stays_local _ _ _ first c.place_argument-2.ensures.local c.in_ok-arg-2.ensures in
    let third = stays_local _ _ _ second c.port_argument.ensures.local c.in_ok-arg-3.ensures in
    IfOk-weaker c.arg-4.result _ _ (λ command adds. stays_local _ _ command third c.to_port_argument.ensures.local adds) c.arg-4.ensures

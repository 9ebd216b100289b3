use Rattle.std.proofs.lemmas.Result.{IfOk-weaker}
use Rattle.clap.specs.Words.{new_app, with_rule}
use Rattle.command_line.specs.Arguments.{source_rule}
use Rattle.file_commands.specs.Without.{level_rule, password_rule, without_name}
use Rattle.command_line.proofs.Building.{adds_rule, stays_local}
use Rattle.file_commands.proofs.without.removing_command.Goals as goal

pub returns-clause-app : goal.returns-clause-app
returns-clause-app c =
    let none = new_app without_name in
    let one = with_rule none level_rule in
    let two = with_rule one password_rule in
    let first = adds_rule _ _ _ none level_rule c.new_command.ensures.app c.level_argument.ensures.rule c.level_argument.ensures.local c.in_ok-arg.ensures in
    let second = adds_rule _ _ _ one password_rule first c.password_argument.ensures.rule c.password_argument.ensures.local c.in_ok-arg-2.ensures in
    IfOk-weaker c.arg-3.result _ _
    (λ command adds. adds_rule _ _ command two source_rule second c.source_argument.ensures.rule c.source_argument.ensures.local adds)
    c.arg-3.ensures

pub returns-clause-local : goal.returns-clause-local
returns-clause-local c =
    let first = stays_local _ _ _ c.new_command.ensures.local c.level_argument.ensures.local c.in_ok-arg.ensures in
    let second = stays_local _ _ _ first c.password_argument.ensures.local c.in_ok-arg-2.ensures in
    IfOk-weaker c.arg-3.result _ _ (λ command adds. stays_local _ _ command second c.source_argument.ensures.local adds) c.arg-3.ensures

use Rattle.std.proofs.lemmas.Result.{IfOk-weaker}
use Rattle.clap.specs.Words.{new_app, with_rule}
use Rattle.command_line.specs.Arguments.{files_rule, ruleset_rule}
use Rattle.show_commands.specs.Output.{output_rule}
use Rattle.file_commands.specs.Best.{best_name}
use Rattle.command_line.proofs.Building.{adds_rule, stays_local}
use Rattle.file_commands.proofs.best.command.Goals as goal

pub returns-clause-app : goal.returns-clause-app
returns-clause-app c =
    let none = new_app best_name in
    let one = with_rule none (ruleset_rule c.args.names) in
    let two = with_rule one files_rule in
    let first = adds_rule _ _ _ none (ruleset_rule c.args.names) c.new_command.ensures.app c.ruleset_argument.ensures.rule c.ruleset_argument.ensures.local c.in_ok-arg.ensures in
    let second = adds_rule _ _ _ one files_rule first c.inputs_argument.ensures.rule c.inputs_argument.ensures.local c.in_ok-arg-2.ensures in
    IfOk-weaker c.arg-3.result _ _
    (λ command adds. adds_rule _ _ command two output_rule second c.output_argument.ensures.rule c.output_argument.ensures.local adds)
    c.arg-3.ensures

pub returns-clause-local : goal.returns-clause-local
returns-clause-local c =
    let first = stays_local _ _ _ c.new_command.ensures.local c.ruleset_argument.ensures.local c.in_ok-arg.ensures in
    let second = stays_local _ _ _ first c.inputs_argument.ensures.local c.in_ok-arg-2.ensures in
    IfOk-weaker c.arg-3.result _ _ (λ command adds. stays_local _ _ command second c.output_argument.ensures.local adds) c.arg-3.ensures

use Rattle.std.proofs.lemmas.Result.{IfOk-weaker}
use Rattle.clap.specs.Words.{new_app, with_rule}
use Rattle.command_line.specs.Arguments.{source_rule}
use Rattle.show_commands.specs.Output.{output_rule}
use Rattle.show_commands.specs.Pack.{pack_name}
use Rattle.command_line.proofs.Building.{adds_rule, stays_local}
use Rattle.show_commands.proofs.pack.command.Goals as goal

pub returns-clause-app : goal.returns-clause-app
returns-clause-app c =
    let none = new_app pack_name in
    let one = with_rule none source_rule in
    let first = adds_rule _ _ _ none source_rule c.new_command.ensures.app c.source_argument.ensures.rule c.source_argument.ensures.local c.in_ok-arg.ensures in
    IfOk-weaker c.arg-2.result _ _
    (λ command adds. adds_rule _ _ command one output_rule first c.output_argument.ensures.rule c.output_argument.ensures.local adds)
    c.arg-2.ensures

pub returns-clause-local : goal.returns-clause-local
returns-clause-local c =
    let first = stays_local _ _ _ c.new_command.ensures.local c.source_argument.ensures.local c.in_ok-arg.ensures in
    IfOk-weaker c.arg-2.result _ _ (λ command adds. stays_local _ _ command first c.output_argument.ensures.local adds) c.arg-2.ensures

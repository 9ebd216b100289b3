use Rattle.std.proofs.lemmas.Result.{IfOk-weaker}
use Rattle.clap.specs.Words.{new_app, with_rule}
use Rattle.file_commands.specs.Compare.{better_rule, compare_name, mine_rule, theirs_rule}
use Rattle.command_line.proofs.Building.{adds_rule, stays_local}
use Rattle.file_commands.proofs.compare.compared_command.Goals as goal

pub returns-clause-app : goal.returns-clause-app
returns-clause-app c =
    let none = new_app compare_name in
    let one = with_rule none mine_rule in
    let two = with_rule one theirs_rule in
    let first = adds_rule _ _ _ none mine_rule c.new_command.ensures.app c.mine_argument.ensures.rule c.mine_argument.ensures.local c.in_ok-arg.ensures in
    let second = adds_rule _ _ _ one theirs_rule first c.theirs_argument.ensures.rule c.theirs_argument.ensures.local c.in_ok-arg-2.ensures in
    IfOk-weaker c.arg-3.result _ _
    (λ command adds. adds_rule _ _ command two better_rule second c.better_argument.ensures.rule c.better_argument.ensures.local adds)
    c.arg-3.ensures

pub returns-clause-local : goal.returns-clause-local
returns-clause-local c =
    let first = stays_local _ _ _ c.new_command.ensures.local c.mine_argument.ensures.local c.in_ok-arg.ensures in
    let second = stays_local _ _ _ first c.theirs_argument.ensures.local c.in_ok-arg-2.ensures in
    IfOk-weaker c.arg-3.result _ _ (λ command adds. stays_local _ _ command second c.better_argument.ensures.local adds) c.arg-3.ensures

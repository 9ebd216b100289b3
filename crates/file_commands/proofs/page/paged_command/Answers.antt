use Rattle.std.proofs.lemmas.Result.{IfOk-weaker}
use Rattle.clap.specs.Words.{new_app, with_rule}
use Rattle.command_line.specs.Arguments.{files_rule}
use Rattle.file_commands.specs.Page.{levels_rule, page_name, title_rule}
use Rattle.command_line.proofs.Building.{adds_rule, stays_local}
use Rattle.file_commands.proofs.page.paged_command.Goals as goal

pub returns-clause-app : goal.returns-clause-app
returns-clause-app c =
    let none = new_app page_name in
    let one = with_rule none files_rule in
    let first = adds_rule _ _ _ none files_rule c.new_command.ensures.app c.files_argument.ensures.rule c.files_argument.ensures.local c.in_ok-arg.ensures in
    let two = with_rule one title_rule in
    let second = adds_rule _ _ _ one title_rule first c.title_argument.ensures.rule c.title_argument.ensures.local c.in_ok-arg-2.ensures in
    IfOk-weaker c.arg-3.result _ _
    (λ command adds. adds_rule _ _ command two levels_rule second c.levels_argument.ensures.rule c.levels_argument.ensures.local adds)
    c.arg-3.ensures

pub returns-clause-local : goal.returns-clause-local
returns-clause-local c =
    let first = stays_local _ _ _ c.new_command.ensures.local c.files_argument.ensures.local c.in_ok-arg.ensures in
    let second = stays_local _ _ _ first c.title_argument.ensures.local c.in_ok-arg-2.ensures in
    IfOk-weaker c.arg-3.result _ _ (λ command adds. stays_local _ _ command second c.levels_argument.ensures.local adds) c.arg-3.ensures

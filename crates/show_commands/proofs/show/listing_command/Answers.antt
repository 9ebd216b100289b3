use Rattle.std.proofs.lemmas.Result.{IfOk-weaker}
use Rattle.clap.specs.Words.{new_app, with_rule}
use Rattle.show_commands.specs.Show.{csv_rule, moves_rule, show_name, shown_rule}
use Rattle.command_line.proofs.Building.{adds_rule, stays_local}
use Rattle.show_commands.proofs.show.listing_command.Goals as goal

pub returns-clause-app : goal.returns-clause-app
returns-clause-app c =
    let none = new_app show_name in
    let one = with_rule none shown_rule in
    let two = with_rule one moves_rule in
    let first = adds_rule _ _ _ none shown_rule c.new_command.ensures.app c.shown_argument.ensures.rule c.shown_argument.ensures.local c.in_ok-arg.ensures in
    let second = adds_rule _ _ _ one moves_rule first c.moves_argument.ensures.rule c.moves_argument.ensures.local c.in_ok-arg-2.ensures in
    IfOk-weaker c.arg-3.result _ _
    (λ command adds. adds_rule _ _ command two csv_rule second c.csv_argument.ensures.rule c.csv_argument.ensures.local adds)
    c.arg-3.ensures

pub returns-clause-local : goal.returns-clause-local
returns-clause-local c =
    let first = stays_local _ _ _ c.new_command.ensures.local c.shown_argument.ensures.local c.in_ok-arg.ensures in
    let second = stays_local _ _ _ first c.moves_argument.ensures.local c.in_ok-arg-2.ensures in
    IfOk-weaker c.arg-3.result _ _ (λ command adds. stays_local _ _ command second c.csv_argument.ensures.local adds) c.arg-3.ensures

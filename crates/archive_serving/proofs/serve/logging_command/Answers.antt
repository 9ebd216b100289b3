use Rattle.std.proofs.lemmas.Result.{IfOk-weaker}
use Rattle.clap.specs.Words.{with_rule}
use Rattle.archive_arguments.specs.Arguments.{number_rule}
use Rattle.archive_serving.specs.Serve.{history_limit_option, history_rule, log_rule, places_app}
use Rattle.command_line.proofs.Building.{adds_rule, stays_local}
use Rattle.archive_serving.proofs.serve.logging_command.Goals as goal

pub returns-clause-app : goal.returns-clause-app
returns-clause-app c =
    let first = adds_rule _ _ _ places_app log_rule c.in_ok-places_command.ensures.app c.log_argument.ensures.rule c.log_argument.ensures.local c.in_ok-arg.ensures in
    let second = adds_rule _ _ _ (with_rule places_app log_rule) history_rule first c.text_argument.ensures.rule c.text_argument.ensures.local c.in_ok-arg-2.ensures in
    IfOk-weaker c.arg-3.result _ _
    (λ command adds. adds_rule _ _ command (with_rule (with_rule places_app log_rule) history_rule) (number_rule history_limit_option) second c.history_limit_argument.ensures.rule c.history_limit_argument.ensures.local adds)
    c.arg-3.ensures

pub returns-clause-local : goal.returns-clause-local
returns-clause-local c =
    let first = stays_local _ _ _ c.in_ok-places_command.ensures.local c.log_argument.ensures.local c.in_ok-arg.ensures in
    let second = stays_local _ _ _ first c.text_argument.ensures.local c.in_ok-arg-2.ensures in
    IfOk-weaker c.arg-3.result _ _ (λ command adds. stays_local _ _ command second c.history_limit_argument.ensures.local adds) c.arg-3.ensures

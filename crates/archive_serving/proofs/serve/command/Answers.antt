use Rattle.std.proofs.lemmas.Result.{IfOk-weaker}
use Rattle.clap.specs.Words.{with_rule}
use Rattle.archive_serving.specs.Serve.{any_rule, logging_app, ports_rule}
use Rattle.command_line.proofs.Building.{adds_rule, stays_local}
use Rattle.archive_serving.proofs.serve.command.Goals as goal

pub returns-clause-app : goal.returns-clause-app
returns-clause-app c =
    let first = adds_rule _ _ _ logging_app any_rule c.in_ok-logging_command.ensures.app c.any_argument.ensures.rule c.any_argument.ensures.local c.in_ok-arg.ensures in
    IfOk-weaker c.arg-2.result _ _
    (λ command adds. adds_rule _ _ command (with_rule logging_app any_rule) ports_rule first c.text_argument.ensures.rule c.text_argument.ensures.local adds)
    c.arg-2.ensures

pub returns-clause-local : goal.returns-clause-local
returns-clause-local c =
    let first = stays_local _ _ _ c.in_ok-logging_command.ensures.local c.any_argument.ensures.local c.in_ok-arg.ensures in
    IfOk-weaker c.arg-2.result _ _ (λ command adds. stays_local _ _ command first c.text_argument.ensures.local adds) c.arg-2.ensures

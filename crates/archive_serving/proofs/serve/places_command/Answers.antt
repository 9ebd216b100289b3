use Rattle.std.proofs.lemmas.Result.{IfOk-weaker}
use Rattle.clap.specs.Words.{with_rule}
use Rattle.archive_serving.specs.Serve.{bound_rule, dir_rule, numbers_app, put_from_rule}
use Rattle.command_line.proofs.Building.{adds_rule, stays_local}
use Rattle.archive_serving.proofs.serve.places_command.Goals as goal

pub returns-clause-app : goal.returns-clause-app
returns-clause-app c =
    let one = with_rule numbers_app bound_rule in
    let first = adds_rule _ _ _ numbers_app bound_rule c.in_ok-numbers_command.ensures.app c.text_argument.ensures.rule c.text_argument.ensures.local c.in_ok-arg.ensures in
    let second = adds_rule _ _ _ one put_from_rule first c.text_argument-2.ensures.rule c.text_argument-2.ensures.local c.in_ok-arg-2.ensures in
    IfOk-weaker c.arg-3.result _ _
    (λ command adds. adds_rule _ _ command (with_rule one put_from_rule) dir_rule second c.text_argument-3.ensures.rule c.text_argument-3.ensures.local adds)
    c.arg-3.ensures

pub returns-clause-local : goal.returns-clause-local
returns-clause-local c =
    let first = stays_local _ _ _ c.in_ok-numbers_command.ensures.local c.text_argument.ensures.local c.in_ok-arg.ensures in
    let second = stays_local _ _ _ first c.text_argument-2.ensures.local c.in_ok-arg-2.ensures in
    IfOk-weaker c.arg-3.result _ _ (λ command adds. stays_local _ _ command second c.text_argument-3.ensures.local adds) c.arg-3.ensures

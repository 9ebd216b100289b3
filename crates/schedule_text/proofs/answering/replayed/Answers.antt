use Rattle.std.proofs.Common.{◌≡◌, inl, inr, refl, ap, Some, string_bytes}
use Rattle.std.proofs.lemmas.Result.{IfOk-weaker}
use Rattle.archive_world.specs.View.{events_of}
use Rattle.schedule_text.specs.Answer.{Answers, outcome_text, fault_text}
use Rattle.schedule_text.proofs.Concluding.{run_of, fault_of}
use Rattle.schedule_text.proofs.answering.replayed.Goals as goal

pub returns-in-Ok : goal.returns-in-Ok
returns-in-Ok c =
    let events = events_of c.args.events.now in
    let ran = run_of events _ _ (ap Some c.new-keeper.ensures.kept) _ c.in-Ok.ensures.ran in
    IfOk-weaker c.outcome_lines.result (λ text. string_bytes text ≡ outcome_text c.in-Ok.outcome) (λ text. Answers events (string_bytes text))
    (λ text is. (_, inl (c.in-Ok.outcome, ran, is))) c.outcome_lines.ensures

pub returns : goal.returns
returns c =
    let events = events_of c.args.events.now in
    let e = c.in-Err.ensures in
    let fault = fault_of events _ _ (ap Some c.new-keeper.ensures.kept) c.in-Err.fault _ refl e.bad e.reused e.not_kept e.not_loaded e.memory in
    IfOk-weaker c.fault_line.result (λ text. string_bytes text ≡ fault_text c.in-Err.fault) (λ text. Answers events (string_bytes text))
    (λ text is. (_, inr (c.in-Err.fault, fault, is))) c.fault_line.ensures

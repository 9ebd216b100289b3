use Rattle.std.proofs.Common.{ap, sym, ◌∙◌}
use Rattle.archive_runs.specs.Run.{Run}
use Rattle.archive_runs.specs.Rounds.{is_ready, wait_end}
use Rattle.archive_runs.proofs.Rounding.{pass_late, pass_received, pass_idle}
use Rattle.archive_runs.proofs.run.Run.make_round.Goals as goal

pub returns-then-is_past : goal.returns-then-is_past
returns-then-is_past g c =
    let end = c.wait_end-end.ensures ∙ ap (λ (r : Run). wait_end c.args.pace r) c.self.view_is in
    pass_late _ _ _ _ _ _ _ end (sym c.is_past.ensures ∙ c.if-is_past.true) c.wait-ready.ensures c.time_out.ensures

pub returns-then-is_ready : goal.returns-then-is_ready
returns-then-is_ready g c =
    let end = c.wait_end-end.ensures ∙ ap (λ (r : Run). wait_end c.args.pace r) c.self.view_is in
    let here = sym (ap (λ (r : Run). is_ready r.port c.wait-ready.result.port) c.self.view_is) ∙ sym c.is_ready.ensures ∙ c.if-is_ready.true in
    pass_received _ _ _ _ _ _ _ end (sym c.is_past.ensures ∙ c.if-is_past.false) here c.wait-ready.ensures c.receive_at.ensures

pub returns-else-is_ready : goal.returns-else-is_ready
returns-else-is_ready g c =
    let end = c.wait_end-end.ensures ∙ ap (λ (r : Run). wait_end c.args.pace r) c.self.view_is in
    let here = sym (ap (λ (r : Run). is_ready r.port c.wait-ready.result.port) c.self.view_is) ∙ sym c.is_ready.ensures ∙ c.if-is_ready.false in
    pass_idle _ _ _ _ _ _ end (sym c.is_past.ensures ∙ c.if-is_past.false) here c.wait-ready.ensures

use Rattle.std.proofs.Common.{ℕ, Bool, List, ◌++◌, Option, Some, ap, ◌∙◌}
use Rattle.jiff.specs.Types.{Timestamp}
use Rattle.jiff_fmt.specs.Text.{datetime_text, zulu_text}
use Rattle.archive_history.proofs.stamp.Stamp.of.Goals as goal

pub returns : goal.returns
returns c =
    let shown = c.timestamp_text.ensures in
    let Options : Type 0 = Bool × ℕ × Option ℕ in
    let text : Options → List ℕ = λ o. datetime_text o.0 o.1 o.2 shown.0 ++ zulu_text o.0 in
    let third : Options → Options = λ o. (o.0, o.1, Some 3) in
    (shown.0, shown.1 ∙ ap (λ (t : Timestamp). t.nanosecond) c.to_plain.ensures, shown.2 ∙ ap text (c.precision-printer.ensures ∙ ap third c.new.ensures))

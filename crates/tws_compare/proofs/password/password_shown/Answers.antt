use Rattle.std.proofs.Common.{◌∷◌, ap, sym, ◌∙◌}
use Rattle.tws_compare.proofs.Shown.{no_letters, some_others, no_others, begins_x}
use Rattle.tws_compare.proofs.password.password_shown.Goals as goal

pub returns-then-bytes-eq4-clause-none : goal.returns-then-bytes-eq4-clause-none
returns-then-bytes-eq4-clause-none c =
    no_letters c.args.text.now c.as_bytes-bytes.result.now c.letters_in.result c.as_bytes-bytes.ensures.value c.if-bytes-eq4.true c.letters_in.ensures.none

pub returns-in-Some-clause-some : goal.returns-in-Some-clause-some
returns-in-Some-clause-some c =
    let parts = c.in-Some.ensures.cases in
    let text = begins_x c.as_bytes-bytes.result.now parts.0 ∙ ap (λ ds. 120 ∷ ds) (sym parts.1) in
    some_others c.args.text.now c.as_bytes-bytes.result.now c.in-Some.digits.now c.as_bytes-bytes.ensures.value text c.others_in.result
    c.others_in.ensures.digits c.others_in.ensures.four c.others_in.ensures.others c.others_in.ensures.bytes

pub returns-in-Some-clause-none : goal.returns-in-Some-clause-none
returns-in-Some-clause-none c =
    let parts = c.in-Some.ensures.cases in
    let text = begins_x c.as_bytes-bytes.result.now parts.0 ∙ ap (λ ds. 120 ∷ ds) (sym parts.1) in
    no_others c.args.text.now c.as_bytes-bytes.result.now c.in-Some.digits.now c.as_bytes-bytes.ensures.value text c.others_in.result
    c.if-bytes-eq4.false c.others_in.ensures.none

use Rattle.std.proofs.Common.{arith, length, ap, sym, ◌∙◌}
use Rattle.std.specs.List.{flat_map}
use Rattle.tws_best.specs.Best.{keyed_body_text}
use Rattle.tws_best.proofs.BodyTexts.{entries_text}
use Rattle.tws_best.proofs.collection.Collection.text_len.Goals as goal

pub returns : goal.returns
returns g c =
    let is = c.records_len.ensures.is ∙ ap length (sym (entries_text c.self.inside.best)) ∙ ap (λ v. length (flat_map keyed_body_text v.entries)) c.self.view_is in
    omega (arith, is)

use Rattle.std.proofs.Common.{◌++◌, List, ℕ, string_bytes, ap, sym, ◌∙◌, map-id}
use Rattle.std.proofs.lemmas.Iterator.{YieldsList-from_chars}
use Rattle.std.proofs.lemmas.Iterator.Consumers.{YieldsList-end}
use Rattle.tws_pages.specs.Escaping.{escaped}
use Rattle.tws_pages.proofs.page_head.push_escaped.Goals as goal

pub returns : goal.returns
returns g c =
    let end = YieldsList-end (YieldsList-from_chars c.args.plain.now c.utf8.plain cc) c.loop-c.yielded _ c.loop-c.yielded_by _ _ c.in-None.is c.next.ensures.steps in
    c.loop-c.invariant ∙ ap (λ (xs : List ℕ). string_bytes c.args.text.now ++ escaped xs) (sym (map-id c.loop-c.yielded) ∙ end.0)

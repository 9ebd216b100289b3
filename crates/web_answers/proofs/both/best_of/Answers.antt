use Rattle.std.proofs.Common.{[], ◌∷◌, ◌++◌, ap, refl, sym, subst, ◌∙◌}
use Rattle.tws_best.specs.Best.{IsCollectionOf, collection_text}
use Rattle.tws_best.proofs.Sets.{no_texts, one_more_text}
use Rattle.web_answers.proofs.both.best_of.Goals as goal

pub returns-in-Ok : goal.returns-in-Ok
returns-in-Ok g c first second mine-is theirs-is same =
    let rules = c.new-collection.result.«ruleset» in
    let none = no_texts rules c.new-collection.result refl c.new-collection.ensures.empty in
    let one = one_more_text rules [] first c.args.mine.now c.new-collection.result c.merge.new.self none mine-is c.merge.ensures.rules c.in_ok-merge.ensures.best in
    let two = one_more_text rules (first ∷ []) second c.args.theirs.now c.merge.new.self c.merge-2.new.self one theirs-is c.merge-2.ensures.rules c.in_ok-merge-2.ensures.best in
    let whole = subst (λ r. IsCollectionOf r (first ∷ second ∷ []) c.merge-2.new.self) (sym two.ruleset_is) two in
    let written = c.in-Ok.ensures.ok ∙ ap (λ old. old ++ collection_text c.merge-2.new.self) c.new-text.ensures.items in
    (c.merge-2.new.self, whole, written)

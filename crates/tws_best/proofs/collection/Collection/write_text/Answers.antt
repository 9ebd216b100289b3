use Rattle.std.proofs.Common.{List, ℕ, ◌++◌, ap, sym, subst, ◌∙◌}
use Rattle.std.specs.Io.KnownBytes.{Appends}
use Rattle.byte_output.specs.Output.{AppendsPrefix}
use Rattle.tws_best.specs.Best.{collection_header, collection_text}
use Rattle.tws_best.specs.Bodies.{BodyPair, keyed_bodies}
use Rattle.tws_best.proofs.BodyTexts.{entries_text}
use Rattle.tws_best.proofs.Results.{on_ok, on_err}
use Rattle.tws_best.proofs.collection.Collection.write_text.Goals as goal

pub returns-clause-ok : goal.returns-clause-ok
returns-clause-ok g c =
    let old = g.W.Write.contents c.args.out.now in
    let new = g.W.Write.contents c.write_parts.new.out in
    let text = ap (λ (x : List ℕ). collection_header c.self.inside.ruleset ++ x) (sym (entries_text c.map.result.now.entries)) ∙
    ap (λ (ps : List BodyPair). collection_text (record { «ruleset» = c.self.inside.ruleset; entries = keyed_bodies ps })) c.map.ensures ∙ ap collection_text c.self.view_is in
    on_ok c.write_parts.result (subst (λ (x : List ℕ). Appends old new x) text) c.write_parts.ensures.ok

pub returns-clause-err : goal.returns-clause-err
returns-clause-err g c =
    let old = g.W.Write.contents c.args.out.now in
    let new = g.W.Write.contents c.write_parts.new.out in
    let text = ap (λ (x : List ℕ). collection_header c.self.inside.ruleset ++ x) (sym (entries_text c.map.result.now.entries)) ∙
    ap (λ (ps : List BodyPair). collection_text (record { «ruleset» = c.self.inside.ruleset; entries = keyed_bodies ps })) c.map.ensures ∙ ap collection_text c.self.view_is in
    on_err c.write_parts.result (subst (λ (x : List ℕ). AppendsPrefix old new x) text) c.write_parts.ensures.err

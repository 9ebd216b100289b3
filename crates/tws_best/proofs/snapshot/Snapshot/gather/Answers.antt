use Rattle.std.proofs.Common.{List, ℕ, ◌+◌, ◌-◌, ◌*◌, ◌++◌, [], length, take, drop, get_or, refl, ap, sym, ◌∙◌, arith}
use Rattle.std.proofs.lemmas.List.{take_rest, get_or_default}
use Rattle.tws_best.specs.Best.{collection_header}
use Rattle.tws_best.proofs.BodyTexts.{texts}
use Rattle.tws_best.proofs.Windows.{first_block, later_block}
use Rattle.tws_best.proofs.snapshot.Snapshot.gather.Goals as goal

pub returns-then-k-eq1-clause-bytes : goal.returns-then-k-eq1-clause-bytes
returns-then-k-eq1-clause-bytes g c =
    let given = c.header_bytes.result in
    let first = take c.put_part-header.result c.put_part-header.new.block in
    first_block (collection_header c.args.self.now.ruleset) given first (take c.put_bodies.result c.put_bodies.new.block) c.args.self.now.bodies c.args.k c.if-k-eq1.true
    (c.header_bytes.ensures ∙ ap (λ v. collection_header v.ruleset) c.self.view_is)
    c.put_part-header.ensures.bytes
    (c.put_bodies.ensures.bytes ∙ ap (λ (bs : List (List ℕ)). take 512 (first ++ texts bs)) (c.as_slice.ensures.value ∙ ap (λ v. v.bodies) c.self.view_is))

pub returns-else-k-eq1-clause-bytes : goal.returns-else-k-eq1-clause-bytes
returns-else-k-eq1-clause-bytes g c =
    let held = c.self.inside.bodies.items in
    let i = c.find-index.result.0 in
    let r = c.find-index.result.1 in
    let body = c.index.result.now in
    let slice = c.deref.result.now in
    let first = take c.put_record-first.result c.put_record-first.new.block in
    let same = ap (λ v. length v.bodies) c.self.view_is in
    later_block (collection_header c.args.self.now.ruleset) body first
    (take c.put_bodies-else-k-eq1.result c.put_bodies-else-k-eq1.new.block) c.args.self.now.bodies
    (take (length slice - (i + 1))
    (drop (i + 1) slice)) i r c.args.k refl c.find-index.ensures.inside c.find-index.ensures.within
    (ap (λ n. 512 * (n - 1)) (sym c.from.ensures) ∙ c.find-index.ensures.is)
    (c.index.ensures ∙ get_or_default held i body [] (omega (arith, c.find-index.ensures.inside, same)) ∙ ap (λ v. get_or v.bodies i []) c.self.view_is)
    (take_rest slice (i + 1) ∙ ap (drop (i + 1)) (c.deref.ensures.value ∙ ap (λ v. v.bodies) c.self.view_is))
    c.put_record-first.ensures.bytes
    c.put_bodies-else-k-eq1.ensures.bytes

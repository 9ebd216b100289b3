use Rattle.std.proofs.Common.{◌≡◌, refl, sym, ◌∙◌, subst, inr, rules}
use Rattle.tws_best.specs.Best.{Collected}
use Rattle.archive_table.specs.FileMerge.{MergesFile}
use Rattle.archive_table.proofs.FileMerges.{merges_read, merges_nothing, with_fault, without_fault, left_none, left_some, fails_keep}
use Rattle.archive_table.proofs.keeping.merge_and_keep.Goals as goal

pub returns-then-is_some-clause-merged : goal.returns-then-is_some-clause-merged
returns-then-is_some-clause-merged g c =
    let found = with_fault _ _ c.in-Ok.fault c.is_some.result c.is_some.ensures c.if-is_some.true c.in-Ok.ensures.read in
    subst (λ (d : Collected). MergesFile c.args.file.now c.args.merge.now.first d) (sym c.merge_chunks.ensures.first)
    (merges_nothing c.args.file.now c.args.merge.now.first found.0 found.1)

pub returns-then-better-eq0-clause-merged : goal.returns-then-better-eq0-clause-merged
returns-then-better-eq0-clause-merged g c =
    let merge = c.merge_chunks.new.merge in
    let text = without_fault _ _ c.in-Ok.fault c.is_some.result c.is_some.ensures c.if-is_some.false c.in-Ok.ensures.read in
    subst (λ (d : Collected). MergesFile c.args.file.now c.args.merge.now.first d)
    ((c.changes-better.ensures.0 c.if-better-eq0.true) ∙ sym (left_none c.changes-better.result merge c.if-better-eq0.true))
    (merges_read c.args.file.now c.args.merge.now.first c.args.merge.now.now merge.now c.requires.begun c.merge_chunks.ensures.rules text)

pub returns-then-is_err-clause-unkept : goal.returns-then-is_err-clause-unkept
returns-then-is_err-clause-unkept g c =
    let now = c.merge_chunks.new.merge.now in
    let text = without_fault _ _ c.in-Ok.fault c.is_some.result c.is_some.ensures c.if-is_some.false c.in-Ok.ensures.read in
    let merged = merges_read c.args.file.now c.args.merge.now.first c.args.merge.now.now now c.requires.begun c.merge_chunks.ensures.rules text in
    inr (
      refl,
      (
        now,
        merged,
        (λ same. c.if-better-eq0.false (c.changes-better.ensures.1 (same ∙ sym c.merge_chunks.ensures.first))),
        fails_keep c.keep.result c.ruleset.result c.collection-collection.result.now now _ _
            (sym c.is_err.ensures.value ∙ c.if-is_err.true) c.ruleset.ensures c.collection-collection.ensures c.keep.ensures.calls,
      ),
    )

pub returns-clause-merged : goal.returns-clause-merged
returns-clause-merged g c =
    let merge = c.merge_chunks.new.merge in
    let text = without_fault _ _ c.in-Ok.fault c.is_some.result c.is_some.ensures c.if-is_some.false c.in-Ok.ensures.read in
    subst (λ (d : Collected). MergesFile c.args.file.now c.args.merge.now.first d) (sym (left_some c.changes-better.result merge c.if-better-eq0.false))
    (merges_read c.args.file.now c.args.merge.now.first c.args.merge.now.now merge.now c.requires.begun c.merge_chunks.ensures.rules text)

pub returns-clause-kept : goal.returns-clause-kept
returns-clause-kept g c = search rules

use Rattle.std.proofs.Common.{◌∙◌, subst}
use Rattle.archive_table.specs.FileMerge.{RefusesOne}
use Rattle.archive_table.proofs.keeping.merge_into.Goals as goal

pub returns-in-Err-clause-unkept : goal.returns-in-Err-clause-unkept
returns-in-Err-clause-unkept g c =
    subst (λ old. RefusesOne c.in-Err.why c.args.file.now old (g.K.Keeper.calls c.args.keeper.now)
    (g.K.Keeper.calls c.merge_and_keep.new.keeper)) (c.of-merge.ensures.first ∙ c.replace.ensures.value) c.in-Err.ensures.unkept

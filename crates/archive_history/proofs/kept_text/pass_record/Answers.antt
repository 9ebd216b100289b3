use Rattle.archive_history.proofs.Passing.{passes_kept}
use Rattle.archive_history.proofs.kept_text.pass_record.Goals as goal

pub returns-then-after-at-ne-FIELD-clause-passes : goal.returns-then-after-at-ne-FIELD-clause-passes
returns-then-after-at-ne-FIELD-clause-passes g c =
    passes_kept (g.W.Write.contents c.args.out.now) c.args.buffer.now c.args.file.now c.args.begun c.args.at c.args.after c.requires.begun c.requires.some c.if-after-at-ne-FIELD.true

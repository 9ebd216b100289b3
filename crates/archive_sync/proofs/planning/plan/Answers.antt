use Rattle.std.proofs.Common.{refl}
use Rattle.archive_sync.proofs.Parts.{better_part, nothing_better}
use Rattle.archive_sync.proofs.planning.plan.Goals as goal

pub returns-then-is_empty-clause-part : goal.returns-then-is_empty-clause-part
returns-then-is_empty-clause-part g c =
    nothing_better c.args.first.now c.args.second.now c.in-Ok.mine c.in-Ok-read_file.theirs c.in-Ok-part.part c.in-Ok.ensures.read c.in-Ok-read_file.ensures.read
    c.in-Ok-part.ensures.same c.in-Ok-part.ensures.better (c.if-is_empty.ensures.0 refl)

pub returns-in-Ok-text-clause-part : goal.returns-in-Ok-text-clause-part
returns-in-Ok-text-clause-part g c =
    better_part c.args.first.now c.args.second.now c.in-Ok.mine c.in-Ok-read_file.theirs c.in-Ok-part.part c.in-Ok-text.text.items c.in-Ok.ensures.read
    c.in-Ok-read_file.ensures.read c.in-Ok-part.ensures.same c.in-Ok-part.ensures.better c.in-Ok-text.ensures

use Rattle.archive_pace.proofs.Blocks.{nothing_at, taken_at}
use Rattle.archive_pace.proofs.queue.take_first.Goals as goal

pub returns-in_default-clause-first : goal.returns-in_default-clause-first
returns-in_default-clause-first c = (nothing_at _ _ _ _ c.as_slice.ensures.value c.place_at.ensures c.in_default.is).0

pub returns-in_default-clause-left : goal.returns-in_default-clause-left
returns-in_default-clause-left c = (nothing_at _ _ _ _ c.as_slice.ensures.value c.place_at.ensures c.in_default.is).1

pub returns-clause-first : goal.returns-clause-first
returns-clause-first c = (taken_at _ _ _ _ _ _ c.as_slice.ensures.value c.place_at.ensures c.in-Some.is c.remove.ensures.value).0

pub returns-clause-left : goal.returns-clause-left
returns-clause-left c = rw c.remove.ensures.items ((taken_at _ _ _ _ _ _ c.as_slice.ensures.value c.place_at.ensures c.in-Some.is c.remove.ensures.value).1)

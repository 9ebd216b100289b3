use Rattle.archive_memory.proofs.Inbox.{nothing_at, taken_at}
use Rattle.archive_memory.proofs.memory_wire.take_first.Goals as goal

pub returns-in_default-clause-first : goal.returns-in_default-clause-first
returns-in_default-clause-first g c = (nothing_at _ _ _ _ c.as_slice.ensures.value c.first_at.ensures c.in_default.is).0

pub returns-in_default-clause-left : goal.returns-in_default-clause-left
returns-in_default-clause-left g c = (nothing_at _ _ _ _ c.as_slice.ensures.value c.first_at.ensures c.in_default.is).1

pub returns-clause-first : goal.returns-clause-first
returns-clause-first g c = (taken_at _ _ _ _ _ _ c.as_slice.ensures.value c.first_at.ensures c.in-Some.is c.remove.ensures.value).0

pub returns-clause-left : goal.returns-clause-left
returns-clause-left g c = rw c.remove.ensures.items ((taken_at _ _ _ _ _ _ c.as_slice.ensures.value c.first_at.ensures c.in-Some.is c.remove.ensures.value).1)

use Rattle.std.proofs.Common.{◌≡◌, None, fold, map, take}
use Rattle.archive_pace.specs.Queue.{waiting_of, with_block}
use Rattle.archive_pace.proofs.queue.Queue.next.Given as goal

abbrev pub invariant-loop-held : goal.invariant-loop-held
invariant-loop-held l = l.best ≡ fold (with_block l.self.pace l.now) None (map waiting_of (take l.held-index l.held-items))

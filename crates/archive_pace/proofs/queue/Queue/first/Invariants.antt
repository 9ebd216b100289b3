use Rattle.std.proofs.Common.{◌≡◌, None, fold, map, take}
use Rattle.archive_pace.specs.Queue.{moment_of, sooner, waiting_of}
use Rattle.archive_pace.proofs.queue.Queue.first.Given as goal

abbrev pub invariant-loop-held : goal.invariant-loop-held
invariant-loop-held l = l.least ≡ fold (λ least w. sooner least (moment_of l.self.pace w)) None (map waiting_of (take l.held-index l.held-items))

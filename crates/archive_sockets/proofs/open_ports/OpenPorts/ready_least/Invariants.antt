use Rattle.std.proofs.Common.{◌≡◌, None, fold, take}
use Rattle.archive_sockets.specs.Arrivals.{is_reported, lesser_if}
use Rattle.archive_sockets.proofs.open_ports.OpenPorts.ready_least.Given as goal

abbrev pub invariant-loop-open : goal.invariant-loop-open
invariant-loop-open l = l.least ≡ fold (λ least o. lesser_if (is_reported o.unread) least o.port) None (take l.open-index l.open-items)

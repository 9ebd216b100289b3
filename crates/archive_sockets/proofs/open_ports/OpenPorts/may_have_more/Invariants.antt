use Rattle.std.proofs.Common.{◌≡◌, false, fold, take, ◌||◌}
use Rattle.archive_sockets.specs.Arrivals.{may_have_more}
use Rattle.archive_sockets.proofs.open_ports.OpenPorts.may_have_more.Given as goal

abbrev pub invariant-loop-open : goal.invariant-loop-open
invariant-loop-open l =
    l.is_found ≡ fold (λ found o. may_have_more o.unread || found) false (take l.open-index l.open-items)

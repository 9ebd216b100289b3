-- Who has the places, and which transfer gives way when they run out.
use Rattle.std.specs.Prelude.{ℕ, ◌+◌, ◌-◌, ◌*◌, ◌/◌, ◌^◌, ◌==◌, ◌&&◌, ◌||◌, not, nat_lt, nat_le, Bool, false, List, fold, count_by, max, length, Option, None, Some, is_some, if◌then◌else◌}
use Rattle.tftp_packet.specs.declared.endpoint.Endpoint.{Endpoint}
use Rattle.archive_table.specs.Table.{Table, has_slot, is_dallying, peer_at}
use Rattle.archive_server.specs.declared.limits.TheConstants.{SENT_ENTRIES}
use Rattle.archive_wire.specs.declared.limits.TheConstants.{TIMEOUT}
use Rattle.archive_server.specs.declared.limits.TheConstants.{PATIENCE}
use Rattle.archive_server.specs.declared.change.Change.{Change}
use Rattle.archive_server.specs.declared.change.Change.TheVariants.{Quiet, Nothing, Dropped, Opened, Sent, Answered, Closed}
use Rattle.archive_server.specs.declared.mode.Mode.{Mode}
use Rattle.archive_server.specs.declared.mode.Mode.TheVariants.{Turn, Round}
use Rattle.archive_server.specs.declared.places.Candidate.{Candidate}
use Rattle.archive_server.specs.declared.timer.Timer.{Timer}

-- ---- the places of a host

-- the loopback range is this host's own
abbrev pub is_loopback : (host : ℕ) → Bool
is_loopback host = host / 2 ^ 24 == 127

abbrev pub is_from : (host : ℕ) → (dallies : Bool) → Option Endpoint → Bool
is_from host dallies None = false
is_from host dallies (Some peer) = (peer.host == host) && not dallies

-- whether the transfer at a port is with a host, and does not dally
abbrev pub counts_for : (host : ℕ) → Table → (port : ℕ) → Bool
counts_for host s port = is_from host (is_dallying port s) (peer_at port s)

-- how many transfers are with a host, without those that dally
abbrev pub count_from : (host : ℕ) → List Timer → Table → ℕ
count_from host timers s = count_by (λ t. counts_for host s t.port) timers

-- whether a host may have one more transfer
abbrev pub has_room : (host per_host : ℕ) → List Timer → Table → Bool
has_room host per_host timers s = is_loopback host || nat_lt (count_from host timers s) per_host

-- ---- the places of all

-- how many solutions the larger collection has
abbrev pub most_entries : Table → ℕ
most_entries s = max (length s.maps.lynx.entries) (length s.maps.ms.entries)

-- Whether one more transfer may have a list of the larger collection: as many lists of it as there are transfers then have at
-- most so many entries.
abbrev pub has_memory : Table → Bool
has_memory s = nat_lt (length s.live) (SENT_ENTRIES / max (most_entries s) 1)

-- whether there is a place for one more transfer
abbrev pub has_place : Table → Bool
has_place s = has_slot s && has_memory s

-- ---- how slow a transfer is

-- For how many seconds it has been live, once that is one.
abbrev pub has_lived : (now : ℕ) → Timer → ℕ
has_lived now t = (now - t.first_due) / TIMEOUT + 1

-- One that is a second old may give way if it moves at most a block a second, as if its peer was never heard; after ten
-- seconds each may.
abbrev pub may_go : (now : ℕ) → Timer → Bool
may_go now t = nat_le t.first_due now && (nat_le t.reached (has_lived now t) || nat_le PATIENCE (has_lived now t))

-- how many blocks it has moved in a thousand seconds
abbrev pub rank : (now : ℕ) → Timer → ℕ
rank now t = t.reached * 1000 / has_lived now t

-- ---- who gives way

-- all places are taken, and no transfer dallies
abbrev pub is_full : List Timer → Table → Bool
is_full timers s = not (has_place s) && (count_by (λ t. is_dallying t.port s) timers == 0)

-- the host whose datagram was just refused, if it has no place left
abbrev pub crowded_host : Change → (per_host : ℕ) → List Timer → Table → Option ℕ
crowded_host (Dropped host) per_host timers s = if has_room host per_host timers s then None else Some host
crowded_host Quiet per_host timers s = None
crowded_host Nothing per_host timers s = None
crowded_host (Opened port) per_host timers s = None
crowded_host (Sent port block) per_host timers s = None
crowded_host (Answered port) per_host timers s = None
crowded_host (Closed port) per_host timers s = None

-- whether an endpoint is of this host, if there are both
abbrev pub is_of : Option ℕ → Option Endpoint → Bool
is_of None peer = false
is_of (Some host) None = false
is_of (Some host) (Some peer) = peer.host == host

-- Whether a transfer has a place that is wanted: any if all are taken, one of this host if it has no place left.
abbrev pub is_crowded : (full : Bool) → Option ℕ → Table → Timer → Bool
is_crowded full host s t = not (is_dallying t.port s) && (full || is_of host (peer_at t.port s))

-- the slower of two, the first if they are equally slow
abbrev pub slower_of : Option Candidate → Candidate → Option Candidate
slower_of None next = Some next
slower_of (Some least) next = if nat_lt next.rank least.rank then Some next else Some least

abbrev pub with_candidate : (full : Bool) → Option ℕ → (now : ℕ) → Table → Option Candidate → Timer → Option Candidate
with_candidate full host now s least t = if may_go now t && is_crowded full host s t then slower_of least (record { rank = rank now t; port = t.port }) else least

-- the slowest transfer that may give way
abbrev pub slowest : (full : Bool) → Option ℕ → (now : ℕ) → List Timer → Table → Option Candidate
slowest full host now timers s = fold (with_candidate full host now s) None timers

-- the same if a place is wanted
abbrev pub slowest_if : (full : Bool) → Option ℕ → (now : ℕ) → List Timer → Table → Option Candidate
slowest_if full host now timers s = if full || is_some host then slowest full host now timers s else None

abbrev pub port_of : Option Candidate → Option ℕ
port_of None = None
port_of (Some c) = Some c.port

-- The port that gives way after a visit: the slowest of all that may, once all places are taken; that of a host, once a
-- datagram of it was refused and it has no place left. A transfer whose peer was never heard is the slowest of all.
abbrev pub victim : Mode → Change → List Timer → Table → Option ℕ
victim Turn change timers s = None
victim (Round now settled policies) change timers s = port_of (slowest_if (is_full timers s) (crowded_host change policies.per_host timers s) now timers s)

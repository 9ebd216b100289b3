-- Which port is read next, and which are open.
use Rattle.std.specs.Prelude.{ℕ, nat_lt, Bool, true, false, not, ◌&&◌, ◌||◌, ◌==◌, ◌≡◌, ◌≢◌, List, [], ◌∷◌, All, find, fold, slice_get, Option, None, Some}
use Rattle.std.specs.List.{remove}
use Rattle.archive_wire.specs.Wire.{lesser}
use Rattle.archive_sockets.specs.declared.open_port.OpenPort.{OpenPort}
use Rattle.archive_sockets.specs.declared.unread.Unread.{Unread}
use Rattle.archive_sockets.specs.declared.unread.Unread.TheVariants.{Nothing, Perhaps, Reported}

abbrev pub is_reported : Unread → Bool
is_reported Nothing = false
is_reported Perhaps = false
is_reported Reported = true

abbrev pub may_have_more : Unread → Bool
may_have_more Nothing = false
may_have_more Perhaps = true
may_have_more Reported = true

abbrev pub marked : Unread → Unread
marked Nothing = Nothing
marked Perhaps = Reported
marked Reported = Reported

-- a port that was read is marked as ready again
abbrev pub marked_read : OpenPort → OpenPort
marked_read o = record o { unread = marked o.unread }

abbrev pub lesser_if : Bool → Option ℕ → ℕ → Option ℕ
lesser_if true least port = lesser least port
lesser_if false least port = least

-- the port that was opened first
abbrev pub first_port : List OpenPort → Option ℕ
first_port [] = None
first_port (o ∷ os) = Some o.port

-- the least ready port, and the least one above `after`
abbrev pub ready_least : List OpenPort → Option ℕ
ready_least ports = fold (λ least o. lesser_if (is_reported o.unread) least o.port) None ports

abbrev pub ready_above : (after : ℕ) → List OpenPort → Option ℕ
ready_above after ports =
    fold (λ least o. lesser_if (is_reported o.unread && nat_lt after o.port) least o.port) None ports

-- whether one of the ports may have a datagram that was not read
abbrev pub one_may_have_more : List OpenPort → Bool
one_may_have_more ports = fold (λ found o. may_have_more o.unread || found) false ports

-- whether datagrams of a host are handed out at a port that keeps to this one, if it keeps to one
abbrev pub takes_from : (only : Option ℕ) → (host : ℕ) → Bool
takes_from None host = true
takes_from (Some only) host = only == host

-- All that arrived was handed out before a wait gave a port only if none was ready then: the time of the poll before it.
-- If none is ready now, it is the time of the last poll.
abbrev pub settled_at : (ready : Option ℕ) (given : Option ℕ) (before after : Option ℕ) → Option ℕ
settled_at ready None before after = after
settled_at None (Some port) before after = before
settled_at (Some least) (Some port) before after = None

-- whether a port is open, and no datagram was sent from there or received
abbrev pub is_unused_in : Option OpenPort → Bool
is_unused_in None = false
is_unused_in (Some o) = not o.used

abbrev pub is_unused : (port : ℕ) → List OpenPort → Bool
is_unused port ports = is_unused_in (find (λ o. o.port == port) ports)

-- the port with this number is no longer open, or there was none
abbrev pub Closes : (port : ℕ) (was_open : Bool) (old new : List OpenPort) → Type 0
Closes port true old new =
    (i : ℕ) × (o : OpenPort) × (slice_get old i ≡ Some o) × (o.port ≡ port) × (new ≡ remove old i)
Closes port false old new = All (λ o. o.port ≢ port) old × (new ≡ old)

-- When each live port times out: a list of timers, one for each live port, in the order of the ports.
use Rattle.std.specs.Prelude.{◌≡◌, ℕ, ◌+◌, ◌-◌, ◌^◌, ◌==◌, ◌<◌, ◌&&◌, ◌||◌, not, nat_lt, nat_le, min, max, Bool, true, false, List, [], ◌∷◌, ◌++◌, map, fold, filter, replicate, length, Option, None, Some, if◌then◌else◌}
use Rattle.archive_table.specs.declared.limits.TheConstants.{LIVE}
use Rattle.tftp_ends.specs.declared.limits.TheConstants.{MISSES}
use Rattle.archive_table.specs.Table.{Table, IsTable, has_slot, is_dallying}
use Rattle.archive_server.specs.declared.change.Change.{Change}
use Rattle.archive_server.specs.declared.change.Change.TheVariants.{Quiet, Nothing, Dropped, Opened, Sent, Answered, Closed}
use Rattle.archive_server.specs.declared.mode.Mode.{Mode}
use Rattle.archive_server.specs.declared.mode.Mode.TheVariants.{Turn, Round}
use Rattle.archive_wire.specs.declared.limits.TheConstants.{QUIET_TURNS, TIMEOUT}
use Rattle.archive_server.specs.declared.timer.Timer.{Timer}
use Rattle.archive_server.specs.Places.{has_place, victim}

abbrev pub ports_of : List Timer → List ℕ
ports_of timers = map (λ t. t.port) timers

abbrev pub live_ports : Table → List ℕ
live_ports s = map (λ e. e.0) s.live

-- the invariant of a server and its timers: each live port has one, in the order of the ports
pub record Tracks (server : Table) (timers : List Timer) : Type 0 where
  pub fits : IsTable server
  pub tracks : ports_of timers ≡ live_ports server

-- that of a transfer that was just opened
abbrev pub new_timer : (port due : ℕ) → Timer
new_timer port due = record { port = port; due = due; first_due = due; reached = 0 }

-- inserts a new timer at its place
abbrev pub with_timer : Timer → List Timer → List Timer
with_timer t [] = t ∷ []
with_timer t (u ∷ us) = if nat_lt u.port t.port then u ∷ with_timer t us else t ∷ u ∷ us

abbrev pub without_timer : (port : ℕ) → List Timer → List Timer
without_timer port [] = []
without_timer port (u ∷ us) = if u.port == port then us else u ∷ without_timer port us

abbrev pub renewed : (port due block : ℕ) → Timer → Timer
renewed port due block t =
    if t.port == port then record { port = t.port; due = due; first_due = t.first_due; reached = max t.reached block } else t

-- restarts the timer of a port, whose transfer has reached this block
abbrev pub with_due : (port due block : ℕ) → List Timer → List Timer
with_due port due block timers = map (renewed port due block) timers

abbrev pub lowered : Timer → Timer
lowered t = record t { due = t.due - 1 }

-- counts a quiet turn
abbrev pub lower : List Timer → List Timer
lower timers = map lowered timers

-- The timers after a visit: a port that was opened gets a new one, a port that was closed has none, and that of a port
-- whose step sent restarts.
abbrev pub timed : Change → (due : ℕ) → List Timer → List Timer
timed Quiet due timers = timers
timed Nothing due timers = timers
timed (Dropped host) due timers = timers
timed (Opened port) due timers = with_timer (new_timer port due) timers
timed (Sent port block) due timers = with_due port due block timers
timed (Answered port) due timers = timers
timed (Closed port) due timers = without_timer port timers

-- The timers after a time-out: that of the port restarts, unless the port was closed.
abbrev pub timed_out : Change → (port due : ℕ) → List Timer → List Timer
timed_out Quiet port due timers = with_due port due 0 timers
timed_out Nothing port due timers = with_due port due 0 timers
timed_out (Dropped host) port due timers = with_due port due 0 timers
timed_out (Opened p) port due timers = with_due port due 0 timers
timed_out (Sent p block) port due timers = with_due port due 0 timers
timed_out (Answered p) port due timers = with_due port due 0 timers
timed_out (Closed p) port due timers = without_timer p timers

-- whether there is a place for a new timer, if one is needed
abbrev pub HasRoom : Change → List Timer → Type 0
HasRoom Quiet timers = Unit {0}
HasRoom Nothing timers = Unit {0}
HasRoom (Dropped host) timers = Unit {0}
HasRoom (Opened port) timers = length timers < LIVE
HasRoom (Sent port block) timers = Unit {0}
HasRoom (Answered port) timers = Unit {0}
HasRoom (Closed port) timers = Unit {0}

-- ---- by turns or by rounds

-- when a port that was opened or sent at `time` times out
abbrev pub deadline : (time : ℕ) → ℕ
deadline time = min (time + TIMEOUT) (2 ^ 64 - 1)

-- to what the timer of a port restarts
abbrev pub restart : Mode → ℕ
restart Turn = QUIET_TURNS
restart (Round now settled policies) = deadline now

abbrev pub is_quiet : Change → Bool
is_quiet Quiet = true
is_quiet Nothing = false
is_quiet (Dropped host) = false
is_quiet (Opened port) = false
is_quiet (Sent port block) = false
is_quiet (Answered port) = false
is_quiet (Closed port) = false

-- whether a visit counts down each timer: only quiet turns do
abbrev pub counts : Mode → (quiet : Bool) → Bool
counts Turn quiet = quiet
counts (Round now settled policies) quiet = false

-- an answer to a stranger restarts a timer only where turns are counted
abbrev pub noticed : Mode → Change → Change
noticed mode Quiet = Quiet
noticed mode Nothing = Nothing
noticed mode (Dropped host) = Dropped host
noticed mode (Opened port) = Opened port
noticed mode (Sent port block) = Sent port block
noticed Turn (Answered port) = Sent port 0
noticed (Round now settled policies) (Answered port) = Nothing
noticed mode (Closed port) = Closed port

abbrev pub timers_if : (counts_down : Bool) → Change → (due : ℕ) → List Timer → List Timer
timers_if true change due timers = lower timers
timers_if false change due timers = timed change due timers

-- the timers after a visit
abbrev pub timers_after : Mode → Change → List Timer → List Timer
timers_after mode change timers = timers_if (counts mode (is_quiet change)) (noticed mode change) (restart mode) timers

-- up to which value of their timers ports time out after a visit
abbrev pub due_by : Mode → (quiet : Bool) → Option ℕ
due_by Turn true = Some 0
due_by Turn false = None
due_by (Round now settled policies) quiet = settled

-- While all places are taken, a transfer that dallies gives way.
abbrev pub gives_way : Mode → (port : ℕ) → Table → Bool
gives_way Turn port s = false
gives_way (Round now settled policies) port s = not (has_place s) && is_dallying port s

abbrev pub is_due : Option ℕ → Timer → Bool
is_due (Some now) t = nat_le t.due now
is_due None t = false

-- the ports that give way
abbrev pub giving_ports : Mode → List Timer → Table → List ℕ
giving_ports mode timers s = ports_of (filter (λ t. gives_way mode t.port s) timers)

-- the time-outs of the port that gives way since places have run out: as many as end any transfer
abbrev pub victim_ports : Option ℕ → List ℕ
victim_ports None = []
victim_ports (Some port) = replicate MISSES port

-- The ports that time out after a visit: those that are due, and those that give way. A transfer that dallies does so by two
-- time-outs, which end each dally (`DALLY` of `tftp_ends`), and another one by five (`MISSES`), so that its place is free before
-- another request is judged.
abbrev pub late_ports : Mode → Change → List Timer → Table → List ℕ
late_ports mode change timers s = (ports_of (filter (λ t. is_due (due_by mode (is_quiet change)) t || gives_way mode t.port s) timers) ++ giving_ports mode timers s) ++ victim_ports (victim mode change timers s)

-- after the time-outs of a round no transfer dallies while all places are taken
abbrev pub HasGivenWay : Mode → Table → Type 0
HasGivenWay Turn s = Unit {0}
HasGivenWay (Round now settled policies) s = has_slot s ≡ false → (port : ℕ) → is_dallying port s ≡ false

-- ---- how long the wire waits

abbrev pub earlier : Option ℕ → Timer → Option ℕ
earlier None t = Some t.due
earlier (Some due) t = Some (min due t.due)

-- until the first port is due, if there is any
abbrev pub earliest : List Timer → Option ℕ
earliest timers = fold earlier None timers

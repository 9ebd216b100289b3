-- What the timers notice of a change: an answer to a stranger may count as nothing, and the ports are the same either
-- way.
use Rattle.std.specs.Prelude.{◌≡◌, ℕ, List}
use Rattle.std.proofs.Common.{refl, sym, subst}
use Rattle.archive_server.specs.declared.change.Change.{Change}
use Rattle.archive_server.specs.declared.change.Change.TheVariants.{Quiet, Nothing, Dropped, Opened, Sent, Answered, Closed}
use Rattle.archive_server.specs.declared.mode.Mode.{Mode}
use Rattle.archive_server.specs.declared.mode.Mode.TheVariants.{Turn, Round}
use Rattle.archive_server.specs.declared.timer.Timer.{Timer}
use Rattle.archive_server.specs.Timers.{ports_of, timed, noticed, HasRoom}
use Rattle.archive_server.proofs.Ports.{ports_due}

room_same : (mode : Mode) (change : Change) (timers : List Timer) → HasRoom change timers → HasRoom (noticed mode change) timers
room_same mode Quiet timers room = room
room_same mode Nothing timers room = room
room_same mode (Dropped host) timers room = room
room_same mode (Opened port) timers room = room
room_same mode (Sent port block) timers room = room
room_same Turn (Answered port) timers room = tt
room_same (Round now settled policies) (Answered port) timers room = tt
room_same mode (Closed port) timers room = room

-- what is noticed needs a place for a timer only if the change does
pub room_noticed : (mode : Mode) (change seen : Change) (timers : List Timer) → seen ≡ noticed mode change → HasRoom change timers → HasRoom seen timers
room_noticed mode change seen timers is room =
    subst (λ (c : Change). HasRoom c timers) (sym is) (room_same mode change timers room)

-- the timers have the same ports, whether all of a change is noticed or not
pub ports_noticed : (mode : Mode) (change : Change) (due : ℕ) (timers : List Timer) → ports_of (timed (noticed mode change) due timers) ≡ ports_of (timed change due timers)
ports_noticed mode Quiet due timers = refl
ports_noticed mode Nothing due timers = refl
ports_noticed mode (Dropped host) due timers = refl
ports_noticed mode (Opened port) due timers = refl
ports_noticed mode (Sent port block) due timers = refl
ports_noticed Turn (Answered port) due timers = ports_due port due 0 timers
ports_noticed (Round now settled policies) (Answered port) due timers = refl
ports_noticed mode (Closed port) due timers = refl

-- The plain value of a wire in memory, without the layout of its lists.
use Rattle.std.specs.Prelude.{◌≡◌, ℕ, ◌+◌, ◌-◌, ◌^◌, ◌==◌, nat_lt, min, max, Bool, true, false, List, [], ◌∷◌, ◌++◌, map, drop, fold, if◌then◌else◌, Option, None, Some}
use Rattle.std.specs.List.{find}
use Rattle.std.specs.Option.{option_or}
use Rattle.tftp_packet.specs.declared.endpoint.Endpoint.{Endpoint}
use Rattle.archive_memory.specs.declared.entry.Entry as noted
use Rattle.archive_memory.specs.declared.entry.Entry.TheVariants.{Opened, Closed, Came, Quiet, Failed, Sent, Waited}
use Rattle.archive_memory.specs.declared.arrival.Arrival as arriving
use Rattle.archive_memory.specs.declared.memory_wire.MemoryWire.TheInside as wires
use Rattle.archive_wire.specs.Wire.{lesser, Entry, opened, closed, came, quiet, failed, sent, waited}

abbrev pub entry_of : {A : Type 0} → noted.Entry A → Entry
entry_of (Opened port) = opened port
entry_of (Closed port ok) = closed port ok
entry_of (Came port from bytes) = came port from bytes
entry_of (Quiet port) = quiet port
entry_of (Failed port) = failed port
entry_of (Sent out ok) = sent out ok
entry_of (Waited after until ready now settled) = waited after until ready now settled

abbrev pub entries_of : {A : Type 0} → List (noted.Entry A) → List Entry
entries_of entries = map entry_of entries

-- a datagram that has arrived at a port and was not received yet
pub record Waiting : Type 0 where
  pub port : ℕ
  pub from : Endpoint
  pub bytes : List ℕ

abbrev pub waiting_of : {A : Type 0} → arriving.Arrival A → Waiting
waiting_of a = record { port = a.port; from = a.from; bytes = a.bytes }

pub record Memory : Type 0 where
  -- the ports that `open` returns, in order
  pub opens : List ℕ
  -- the datagrams that have arrived, oldest first
  pub inbox : List Waiting
  pub log : List Entry
  -- whether the log has an entry for each call
  pub telling : Bool
  pub failures : ℕ
  -- which call from now fails, counted from 1; 0 if none does
  pub fails_in : ℕ
  -- the time
  pub time : ℕ
  -- what `wait` reports as settled beside a ready port
  pub settled : Option ℕ

abbrev pub memory_of : {A : Type 0} → wires.Inside A → Memory
memory_of w =
    record {
      opens = w.opens.items;
      inbox = map waiting_of w.inbox.items;
      log = entries_of w.log.items;
      telling = w.telling;
      failures = w.failures;
      fails_in = w.fails_in;
      time = w.time;
      settled = w.settled;
    }

-- the log, as long as it has an entry for each call
abbrev pub reported_by : (telling : Bool) → List Entry → Option (List Entry)
reported_by true log = Some log
reported_by false log = None

-- ---- what a call does to it

-- a datagram arrives
abbrev pub arrives_at : (port : ℕ) (from : Endpoint) (bytes : List ℕ) → Memory → Memory
arrives_at port from bytes w =
    record w { inbox = w.inbox ++ record { port = port; from = from; bytes = bytes } ∷ [] }

-- one call fewer is left until the one that fails
abbrev pub counts_call : Memory → Memory
counts_call w = record w { fails_in = w.fails_in - 1 }

-- one more failure, unless the count is at its greatest
abbrev pub rises : Memory → Memory
rises w = record w { failures = min (w.failures + 1) (2 ^ 64 - 1) }

-- an entry is added to the log if there is memory for it; otherwise there is no log any more
abbrev pub notes : (done : Bool) → Entry → Memory → Memory
notes true entry w = record w { log = w.log ++ entry ∷ [] }
notes false entry w = record w { telling = false }

abbrev pub calls_of : Memory → Option (List Entry)
calls_of w = reported_by w.telling w.log

-- what logging a call leaves unchanged
pub record SameButLog (old new : Memory) : Type 0 where
  pub opens : new.opens ≡ old.opens
  pub inbox : new.inbox ≡ old.inbox
  pub fails_in : new.fails_in ≡ old.fails_in
  pub time : new.time ≡ old.time
  pub settled : new.settled ≡ old.settled

-- ---- `open`

abbrev pub first_in : List ℕ → Option ℕ
first_in [] = None
first_in (port ∷ ports) = Some port

-- the port that it returns: the first, unless this call is to fail
abbrev pub port_taken : Memory → Option ℕ
port_taken w = if w.fails_in == 1 then None else first_in w.opens

abbrev pub takes_port : Memory → Memory
takes_port w = record w { opens = if w.fails_in == 1 then w.opens else drop 1 w.opens; fails_in = w.fails_in - 1 }

-- ---- `receive`

abbrev pub is_to : (port : ℕ) → Waiting → Bool
is_to port one = one.port == port

-- the oldest datagram at a port
abbrev pub first_to : (port : ℕ) → List Waiting → Option Waiting
first_to port waiting = find (is_to port) waiting

-- all but that one
abbrev pub without_first : (port : ℕ) → List Waiting → List Waiting
without_first port [] = []
without_first port (one ∷ more) = if is_to port one then more else one ∷ without_first port more

abbrev pub came_or_quiet : (port : ℕ) → Option Waiting → Entry
came_or_quiet port None = quiet port
came_or_quiet port (Some one) = came port one.from one.bytes

-- its entry: the oldest datagram at the port, or none, unless this call is to fail
abbrev pub receipt : (port : ℕ) → Memory → Entry
receipt port w = if w.fails_in == 1 then failed port else came_or_quiet port (first_to port w.inbox)

abbrev pub takes_arrival : (port : ℕ) → Memory → Memory
takes_arrival port w = record w { inbox = if w.fails_in == 1 then w.inbox else without_first port w.inbox; fails_in = w.fails_in - 1 }

-- ---- `wait`

-- the least port at which a datagram waits
abbrev pub least_port : List Waiting → Option ℕ
least_port waiting = fold (λ least one. lesser least one.port) None waiting

-- the least of those above `after`
abbrev pub least_above : (after : ℕ) → List Waiting → Option ℕ
least_above after waiting = fold (λ least one. if nat_lt after one.port then lesser least one.port else least) None waiting

-- the next port above `after` at which a datagram waits, or else the least
abbrev pub next_ready : (after : ℕ) → List Waiting → Option ℕ
next_ready after waiting = option_or (least_above after waiting) (least_port waiting)

-- where nothing waits, all that arrived was handed out
abbrev pub settled_by : (ready : Option ℕ) → (settled : Option ℕ) → (time : ℕ) → Option ℕ
settled_by (Some port) settled time = settled
settled_by None settled time = Some time

-- if nothing has arrived, the clock advances to the moment that is waited for
abbrev pub time_after : (ready until : Option ℕ) → (time : ℕ) → ℕ
time_after (Some port) until time = time
time_after None None time = time
time_after None (Some moment) time = max time moment

-- The log of a wire: one entry for each call, with its arguments and its result. A contract over any wire says by which
-- entries the log grew.
use Rattle.std.specs.Prelude.{◌≡◌, ℕ, min, Bool, true, false, List, [], ◌∷◌, ◌++◌, take, Option, None, Some, Result, Ok, Err}
use Rattle.tftp_packet.specs.declared.endpoint.Endpoint.{Endpoint}
use Rattle.tftp_packet.specs.declared.out.Out.{Out}
use Rattle.archive_wire.specs.declared.wire_fault.WireFault.{WireFault}

pub data Entry : Type 0 where
  -- `open`: the port, or none if it failed
  opened : (port : Option ℕ) → Entry
  -- `close`, and whether it succeeded
  closed : (port : ℕ) (ok : Bool) → Entry
  -- `receive`: a datagram of these bytes had arrived at the port
  came : (port : ℕ) (from : Endpoint) (bytes : List ℕ) → Entry
  -- `receive`: nothing had arrived at the port
  quiet : (port : ℕ) → Entry
  -- `receive`: it failed at the port
  failed : (port : ℕ) → Entry
  -- `send`, and whether it succeeded
  sent : (out : Out) (ok : Bool) → Entry
  -- `wait` for a ready port after this one, until this moment: the ready port, the time, and the time up to which all
  -- that arrived was handed out, if that was just found
  waited : (after : ℕ) (until : Option ℕ) (ready : Option ℕ) (now : ℕ) (settled : Option ℕ) → Entry

-- ---- the entry of a call, by its result

abbrev pub port_opened : Result ℕ WireFault → Option ℕ
port_opened (Ok port) = Some port
port_opened (Err e) = None

abbrev pub was_done : Result (Unit {0}) WireFault → Bool
was_done (Ok done) = true
was_done (Err e) = false

abbrev pub received : (port : ℕ) → Result (Option (ℕ × Endpoint)) WireFault → (buffer : List ℕ) → Entry
received port (Ok None) buffer = quiet port
received port (Ok (Some got)) buffer = came port got.1 (take got.0 buffer)
received port (Err e) buffer = failed port

-- ---- how a log grows

abbrev pub IsGrown : (old : Option (List Entry)) → (new added : List Entry) → Type 0
IsGrown None new added = ⊥
IsGrown (Some old) new added = new ≡ old ++ added

-- If there is a log afterwards, there was one before, and it has grown by these entries. So a wire that has lost
-- its log never has one again.
pub record Grows (old new : Option (List Entry)) (added : List Entry) : Type 0 where
  pub reported : (log : List Entry) → new ≡ Some log → IsGrown old log added

-- ---- what is returned

-- whether the calls after a step succeed, if they are made
pub record Replies : Type 0 where
  pub sent : Bool
  pub closed : Bool

-- by `receive`
pub data Receipt : Type 0 where
  datagram : (from : Endpoint) (bytes : List ℕ) → Receipt
  nothing : Receipt
  fault : Receipt

-- ---- the datagram of a step

abbrev pub sendings : Option Out → (ok : Bool) → List Entry
sendings None ok = []
sendings (Some out) ok = sent out ok ∷ []

-- the log after this datagram was sent, if there is one
pub record SendsOut (out : Option Out) (before after : Option (List Entry)) : Type 0 where
  pub ok : Bool
  pub grows : Grows before after (sendings out ok)

-- ---- ready ports

-- the lesser of a port and the least so far
abbrev pub lesser : Option ℕ → ℕ → Option ℕ
lesser None port = Some port
lesser (Some least) port = Some (min least port)

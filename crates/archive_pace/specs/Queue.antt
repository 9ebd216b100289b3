-- The last blocks that are held, and which of them is next. Times are in microseconds.
use Rattle.std.specs.Prelude.{◌≡◌, ℕ, ◌-◌, ◌==◌, nat_lt, nat_le, min, max, Bool, false, List, [], ◌∷◌, length, take, fold, if◌then◌else◌, Option, None, Some, Result, Ok, Err}
use Rattle.std.specs.List.{find}
use Rattle.tftp_packet.specs.Packet.{Packet, read, write, data_block, ack, error}
use Rattle.tftp_packet.specs.declared.endpoint.Endpoint.{Endpoint}
use Rattle.tftp_packet.specs.declared.packet_fault.PacketFault.{PacketFault}
use Rattle.tftp_packet.specs.declared.sizes.TheConstants.{BLOCK_SIZE}
use Rattle.archive_pace.specs.declared.held.Held.{Held}
use Rattle.archive_pace.specs.declared.queue.Candidate.{Candidate}
use Rattle.archive_pace.specs.declared.queue.Step.{Step}
use Rattle.archive_pace.specs.Pace.{Pacing, last_of, moment, noted}

-- a last block that has come at a port, and was not handed out yet
pub record Waiting : Type 0 where
  pub port : ℕ
  pub from : Endpoint
  pub came : ℕ
  pub bytes : List ℕ

abbrev pub waiting_of : Held → Waiting
waiting_of h = record { port = h.port; from = h.from; came = h.came; bytes = h.bytes }

-- whether a packet is a block that ends a file
abbrev pub ends_file : Result Packet PacketFault → Bool
ends_file (Ok (read name mode)) = false
ends_file (Ok (write name mode)) = false
ends_file (Ok (data_block block body)) = nat_lt (length body) BLOCK_SIZE
ends_file (Ok (ack block)) = false
ends_file (Ok (error code text)) = false
ends_file (Err e) = false

-- ---- the block of a port

abbrev pub is_at : (port : ℕ) → Waiting → Bool
is_at port w = w.port == port

abbrev pub first_at : (port : ℕ) → List Waiting → Option Waiting
first_at port ws = find (is_at port) ws

-- all but that one
abbrev pub without_first : (port : ℕ) → List Waiting → List Waiting
without_first port [] = []
without_first port (w ∷ ws) = if is_at port w then ws else w ∷ without_first port ws

-- ---- which may be taken

-- from when on
abbrev pub moment_of : Pacing → Waiting → ℕ
moment_of p w = max (moment w.from.host p) w.came

abbrev pub is_due : Pacing → (now : ℕ) → Option Waiting → Bool
is_due p now None = false
is_due p now (Some w) = nat_le (moment_of p w) now

-- whether the block of a port may be taken
abbrev pub is_free : (port : ℕ) → (now : ℕ) → Pacing → List Waiting → Bool
is_free port now p ws = is_due p now (first_at port ws)

abbrev pub sooner : Option ℕ → ℕ → Option ℕ
sooner None moment = Some moment
sooner (Some least) moment = Some (min least moment)

-- from when on one of them may be
abbrev pub first_moment : Pacing → List Waiting → Option ℕ
first_moment p ws = fold (λ least w. sooner least (moment_of p w)) None ws

-- ---- which is next

-- the one whose host's last keep is longer ago, the first if both are equal
abbrev pub fairer : Option Candidate → Candidate → Option Candidate
fairer None next = Some next
fairer (Some best) next = if nat_lt next.rank best.rank then Some next else Some best

abbrev pub with_block : Pacing → (now : ℕ) → Option Candidate → Waiting → Option Candidate
with_block p now best w =
    if nat_le (moment_of p w) now then fairer best (record { rank = last_of w.from.host p; port = w.port }) else best

abbrev pub port_of : Option Candidate → Option ℕ
port_of None = None
port_of (Some c) = Some c.port

-- the port of the one that is next, if one may be taken
abbrev pub next_port : (now : ℕ) → Pacing → List Waiting → Option ℕ
next_port now p ws = port_of (fold (with_block p now) None ws)

-- ---- steps

-- what is noted of a step that has ended, if there was one
abbrev pub ended : (now : ℕ) → Option Step → Pacing → Pacing
ended now None p = p
ended now (Some s) p = noted (record { host = s.host; ended = now; took = now - s.began }) p

-- what `receive` hands out: from where, and the bytes
abbrev pub handed : Option (ℕ × Endpoint) → (buffer : List ℕ) → Option (Endpoint × List ℕ)
handed None buffer = None
handed (Some got) buffer = Some (got.1, take got.0 buffer)

abbrev pub block_of : Option Waiting → Option (Endpoint × List ℕ)
block_of None = None
block_of (Some w) = Some (w.from, w.bytes)

abbrev pub step_of : (now : ℕ) → Option Waiting → Option Step
step_of now None = None
step_of now (Some w) = Some (record { host = w.from.host; began = now })

-- The block of a port is handed out whole, and is not held any more. A step has begun at this time.
pub record Taken (port now : ℕ) (old : List Waiting) (got : Option (ℕ × Endpoint)) (buffer : List ℕ) (new : List Waiting) (step : Option Step) : Type 0 where
  pub block : handed got buffer ≡ block_of (first_at port old)
  pub left : new ≡ without_first port old
  pub step_is : step ≡ step_of now (first_at port old)

-- No place is held without blocks: how often a port of the server times out while one transfer is there.
use Rattle.std.specs.Prelude.{ℕ, ◌+◌, ◌*◌, ◌<◌, ◌≤◌, Bool, false, ◌==◌, ◌&&◌, cond, List, [], ◌∷◌, slice_get, Option, None, Some, IsSome}
use Rattle.tftp_packet.specs.declared.endpoint.Endpoint.{Endpoint}
use Rattle.tftp_ends.specs.declared.limits.TheConstants.{MAX_BLOCKS, MISSES}
use Rattle.archive_table.specs.Table.{End, sending, receiving, Transfer, is_same, transfer_at}
use Rattle.archive_model.specs.World.{Datagram, Event, begin, deliver, client_times_out, server_times_out, stray, restart, unknown_keep, WorldStep, World, happens, run_from}

-- a transfer is at the port before each of these steps and after them, so it is one
abbrev pub IsHeld : (port : ℕ) → List WorldStep → World → Type 0
IsHeld port [] w = IsSome (transfer_at port w.server)
IsHeld port (s ∷ steps) w = IsSome (transfer_at port w.server) × IsHeld port steps (happens s w)

-- how many of the steps are time-outs of the port
abbrev pub event_waits : (port : ℕ) → Event → ℕ
event_waits port (begin e operation) = 0
event_waits port (deliver index spare) = 0
event_waits port (client_times_out e) = 0
event_waits port (server_times_out other) = cond (other == port) 1 0
event_waits port (stray d) = 0
event_waits port restart = 0
event_waits port (unknown_keep index found) = 0

abbrev pub port_waits : (port : ℕ) → List WorldStep → ℕ
port_waits port [] = 0
port_waits port (s ∷ steps) = event_waits port s.event + port_waits port steps

-- whether the datagram arrives at this endpoint of the server from the peer of the transfer there
abbrev pub is_fed : Endpoint → Option Transfer → Option Datagram → Bool
is_fed at None sent = false
is_fed at (Some t) None = false
is_fed at (Some t) (Some d) = is_same d.target at && is_same d.source t.peer

-- how many of the steps deliver a datagram there from the peer of the transfer
abbrev pub event_feeds : (port : ℕ) → Event → World → ℕ
event_feeds port (begin e operation) w = 0
event_feeds port (deliver index spare) w =
    cond (is_fed (record { host = w.home.host; port = port }) (transfer_at port w.server) (slice_get w.net index)) 1 0
event_feeds port (client_times_out e) w = 0
event_feeds port (server_times_out other) w = 0
event_feeds port (stray d) w = 0
event_feeds port restart w = 0
event_feeds port (unknown_keep index found) w = 0

abbrev pub port_feeds : (port : ℕ) → List WorldStep → World → ℕ
port_feeds port [] w = 0
port_feeds port (s ∷ steps) w = event_feeds port s.event w + port_feeds port steps (happens s w)

-- how many blocks the transfer at the port has received, or sent
abbrev pub end_blocks : End → ℕ
end_blocks (sending s) = s.current
end_blocks (receiving r) = r.count

abbrev pub found_blocks : Option Transfer → ℕ
found_blocks None = 0
found_blocks (Some t) = end_blocks t.end

abbrev pub port_blocks : (port : ℕ) → World → ℕ
port_blocks port w = found_blocks (transfer_at port w.server)

-- While one transfer is at the port, it has fewer than MISSES time-outs, and MISSES for each block that comes or is acknowledged
-- meanwhile. Each of these takes a datagram from its peer, and there are at most MAX_BLOCKS.
pub record HoldsByBlocks (port : ℕ) (w : World) (steps : List WorldStep) : Type 0 where
  pub waits : port_waits port steps + MISSES * port_blocks port w < MISSES * (port_blocks port (run_from steps w) + 1)
  pub fed : port_blocks port (run_from steps w) ≤ port_blocks port w + port_feeds port steps w
  pub most : port_blocks port (run_from steps w) ≤ MAX_BLOCKS

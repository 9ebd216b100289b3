-- The world of a machine, without its layout in memory.
use Rattle.std.specs.Prelude.{◌≡◌, ℕ, zero, suc, Bool, true, false, List, [], ◌∷◌, Option, None, Some}
use Rattle.tftp_packet.specs.declared.endpoint.Endpoint.{Endpoint}
use Rattle.archive_client.specs.Client.{Client, state_of, phase_file, verdict_after}
use Rattle.archive_client.specs.Client as client
use Rattle.tftp_packet.specs.declared.out.Out.{Out}
use Rattle.std.specs.Map.{lookup, set_value}
use Rattle.tftp_ends.specs.Ends.{Verdict, granted}
use Rattle.archive_world.specs.declared.seat.Seat.TheInside as seats
use Rattle.archive_world.specs.declared.running.Running as runnings
use Rattle.archive_world.specs.declared.running.Running.TheVariants.{Put, Get}
use Rattle.archive_world.specs.declared.begun.Begun.TheInside as beginning
use Rattle.archive_world.specs.declared.machine.Machine.TheInside as machines
use Rattle.archive_world.specs.View.{operation_of}
use Rattle.archive_model.specs.World.{World, Begun, Datagram, server_endpoint, given, after_transfer, net_with, sent_with, got_with, newly_sent, newly_got}
use Rattle.archive_table.specs.Table.{Taken, Grant, all, Merges, table_datagram, is_same}
use Rattle.archive_table.specs.Keeper.{Keeping, StepKeeps}

abbrev pub running_of : {A : Type 0} → runnings.Running A → Client
running_of (Put c) = c
running_of (Get c) = c

abbrev pub seat_of : {A : Type 0} → seats.Inside A → Endpoint × Client
seat_of s = (s.client, running_of s.running)

abbrev pub begun_of : {A : Type 0} → beginning.Inside A → Begun
begun_of b = record { client = b.client; operation = operation_of b.kind; taken = b.taken }

-- the file that a client has fetched whole; a put has none
abbrev pub running_file : {A : Type 0} → runnings.Running A → Option (List ℕ)
running_file (Put c) = None
running_file (Get c) = phase_file c.phase

-- what a client's step was granted, judged by the client after it
abbrev pub verdict_in : {A : Type 0} → runnings.Running A → Verdict
verdict_in (Put c) = granted
verdict_in (Get c) = verdict_after c

-- of the entries before this place, none has a key that passes
abbrev pub NoneBefore : {K X : Type 0} → (test : K → Bool) → ℕ → List (K × X) → Type 0
NoneBefore test zero xs = Unit {0}
NoneBefore test (suc i) [] = ⊥
NoneBefore test (suc i) (x ∷ xs) = (test x.0 ≡ false) × NoneBefore test i xs

-- the first entry whose key passes is at this place
abbrev pub IsFirst : {K X : Type 0} → (test : K → Bool) → ℕ → List (K × X) → Type 0
IsFirst test zero [] = ⊥
IsFirst test zero (x ∷ xs) = test x.0 ≡ true
IsFirst test (suc i) [] = ⊥
IsFirst test (suc i) (x ∷ xs) = (test x.0 ≡ false) × IsFirst test i xs

-- the world of a machine
abbrev pub world_of : {A : Type 0} → machines.Inside A → World
world_of m =
    record {
      server = m.table;
      clients = m.clients.items;
      past = record {
        home = server_endpoint;
        net = m.net.items;
        begun = m.begun.items;
        taken = m.taken.items;
        recovered = m.recovered.items;
        sent = m.sent.items;
        got = m.got.items;
        opened = m.opened.items;
        strays = m.strays.items;
      };
    }

-- a text that the keeper had at first, as a file that the server has taken
abbrev pub first_taken : Option (List ℕ) → Option Taken
first_taken None = None
first_taken (Some text) = Some (given server_endpoint text)

-- ---- a datagram at a port of the server

-- The world after a datagram has arrived at a port of the server, with what was granted; and the keeper's list after
-- that.
pub record ReceivesAtPort (d : Datagram) (before after : Option (List Keeping)) (old new : World) : Type 0 where
  pub grant : Grant
  pub is : new ≡ after_transfer (table_datagram grant new.server.maps d.target.port d.source d.bytes old.server) old
  pub merges : Merges (table_datagram grant new.server.maps d.target.port d.source d.bytes old.server).step.taken old.server.maps new.server.maps
  -- by the file that is taken if everything is granted
  pub keeps : StepKeeps grant (table_datagram all old.server.maps d.target.port d.source d.bytes old.server).step.taken old.server.maps new.server.maps before after

-- ---- a client

-- the file of a client, if it has just fetched it
abbrev pub newly_fetched : (newly : Bool) → Option (List ℕ) → Option (List ℕ)
newly_fetched true file = file
newly_fetched false file = None

-- For the client at an endpoint: what its step returned, as a list of clients and a program see it.
pub record StepsClient (step : Client → client.ClientAnswer) (e : Endpoint) (before after : List (Endpoint × Client)) (sent : Bool) (file : Option (List ℕ)) (out : Option Out) : Type 0 where
  pub client : Client
  pub there : lookup (is_same e) before ≡ Some client
  pub written : after ≡ set_value (is_same e) before (step client).client
  pub sent_is : sent ≡ newly_sent (state_of client) (state_of (step client).client)
  pub file_is : file ≡ newly_fetched (newly_got (state_of client) (state_of (step client).client)) (phase_file (step client).client.phase)
  pub out_is : out ≡ (step client).out

-- a machine's world with these clients, after a step of one of them has returned this
abbrev pub answered_by : Endpoint → List (Endpoint × Client) → (sent : Bool) → (file : Option (List ℕ)) → Option Out → World → World
answered_by e clients sent file out w =
    record w {
      clients = clients;
      past = record w.past { net = net_with e.host w.net out; sent = sent_with sent e w.sent; got = got_with true e file w.got };
    }

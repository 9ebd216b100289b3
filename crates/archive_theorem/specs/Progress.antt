-- Nothing gets stuck: whatever has happened, a put or a get that begins while the server has a place for its transfer succeeds
-- if its datagrams are delivered in turn, and time-outs alone lead to such a place.
use Rattle.std.specs.Prelude.{◌≡◌, ◌≢◌, ℕ, ◌+◌, ◌*◌, ◌≤◌, List, [], ◌∷◌, ◌++◌, length}
use Rattle.std.proofs.Common.{zero, suc}
use Rattle.tftp_packet.specs.declared.endpoint.Endpoint.{Endpoint}
use Rattle.tftp_packet.specs.Blocks.{block_count}
use Rattle.tws_file.specs.declared.«ruleset».Ruleset.{Ruleset}
use Rattle.tws_best.specs.Best.{collection_text}
use Rattle.archive_table.specs.Table.{Maps, all, IsMerged, map_of}
use Rattle.archive_client.specs.Client.{Operation, put, get}
use Rattle.archive_model.specs.World.{Event, begin, deliver, to_write, to_read, WorldStep, World, run_from, IsFree, AllMerged, AllMayHappen}
use Rattle.archive_theorem.specs.Freeing.{time_outs}
use Rattle.archive_theorem.specs.Traces.{steps_with}

-- ---- the schedule

-- from this place on so many datagrams are delivered, one after another; for the request, the spare port is this one
abbrev pub deliveries : (from spare count : ℕ) → List Event
deliveries from spare zero = []
deliveries from spare (suc count) = deliver from spare ∷ deliveries (from + 1) spare count

-- An operation begins, and then the datagrams that are sent are delivered in turn. All is granted, and no file but the
-- operation's is taken.
abbrev pub in_turn : World → Endpoint → Operation → (spare count : ℕ) → Maps → List WorldStep
in_turn w e operation spare count maps = steps_with all maps (begin e operation ∷ deliveries (length w.net) spare count)

-- a put: two datagrams for each block, as for the request
abbrev pub put_in_turn : World → Endpoint → (file : List ℕ) → (spare : ℕ) → Maps → List WorldStep
put_in_turn w e file spare maps = in_turn w e (put file) spare (2 * block_count file + 2) maps

-- a get: two datagrams for each block, and one for the request
abbrev pub get_in_turn : World → Endpoint → Ruleset → (spare : ℕ) → List WorldStep
get_in_turn w e rules spare =
    in_turn w e (get rules) spare (2 * block_count (collection_text (map_of rules w.server.maps)) + 1) w.server.maps

-- ---- a put

-- what has changed after it: one transfer was opened, and the file is taken and counted as sent
pub record HasPut (w v : World) (e : Endpoint) (file : List ℕ) (spare : ℕ) (maps : Maps) : Type 0 where
  pub begun : v.begun ≡ w.begun ++ record { client = e; operation = put file; taken = length w.taken } ∷ []
  pub opened : v.opened ≡ w.opened ++ record { peer = e; port = spare; asked = to_write; taken = length w.taken } ∷ []
  pub taken : v.taken ≡ w.taken ++ record { peer = e; file = file } ∷ []
  pub sent : v.sent ≡ w.sent ++ e ∷ []
  pub got : v.got ≡ w.got
  pub strays : v.strays ≡ w.strays
  pub maps_are : v.server.maps ≡ maps
  pub cost : length v.net ≡ length w.net + 2 * block_count file + 2

-- Each step of the schedule may happen, and takes no file but that of the put.
pub record PutsInTurn (w : World) (e : Endpoint) (file : List ℕ) (spare : ℕ) (maps : Maps) : Type 0 where
  pub may : AllMayHappen (put_in_turn w e file spare maps) w
  pub merged : AllMerged (put_in_turn w e file spare maps) w
  pub done : HasPut w (run_from (put_in_turn w e file spare maps) w) e file spare maps

-- whichever port is free, and with the collections that the file makes
abbrev pub CanPut : World → Endpoint → (file : List ℕ) → Type 0
CanPut w e file = (spare : ℕ) → IsFree spare w → (maps : Maps) → IsMerged file w.server.maps maps → PutsInTurn w e file spare maps

-- after time-outs that leave no transfer, as many as are five for each
pub record IsUnstuck (w : World) (e : Endpoint) (file : List ℕ) : Type 0 where
  pub ports : List ℕ
  pub few : length ports ≤ 5 * length w.server.live
  pub idle : (run_from (time_outs ports) w).server.live ≡ []
  pub can : CanPut (run_from (time_outs ports) w) e file

-- ---- a get

-- what has changed after it: one transfer was opened, and the client has fetched the collection as it is
pub record HasFetched (w v : World) (e : Endpoint) (rules : Ruleset) (spare : ℕ) : Type 0 where
  pub begun : v.begun ≡ w.begun ++ record { client = e; operation = get rules; taken = length w.taken } ∷ []
  pub opened : v.opened ≡ w.opened ++ record { peer = e; port = spare; asked = to_read rules; taken = length w.taken } ∷ []
  pub taken : v.taken ≡ w.taken
  pub sent : v.sent ≡ w.sent
  pub got : v.got ≡ w.got ++ record { client = e; file = collection_text (map_of rules w.server.maps) } ∷ []
  pub strays : v.strays ≡ w.strays
  pub maps_are : v.server.maps ≡ w.server.maps
  pub cost : length v.net ≡ length w.net + 2 * block_count (collection_text (map_of rules w.server.maps)) + 1

pub record GetsInTurn (w : World) (e : Endpoint) (rules : Ruleset) (spare : ℕ) : Type 0 where
  pub may : AllMayHappen (get_in_turn w e rules spare) w
  pub merged : AllMerged (get_in_turn w e rules spare) w
  pub done : HasFetched w (run_from (get_in_turn w e rules spare) w) e rules spare

abbrev pub CanGet : World → Endpoint → Ruleset → Type 0
CanGet w e rules = (spare : ℕ) → IsFree spare w → GetsInTurn w e rules spare

pub record GetIsUnstuck (w : World) (e : Endpoint) (rules : Ruleset) : Type 0 where
  pub ports : List ℕ
  pub few : length ports ≤ 5 * length w.server.live
  pub idle : (run_from (time_outs ports) w).server.live ≡ []
  pub can : CanGet (run_from (time_outs ports) w) e rules

-- No transfer stays for ever: whatever has happened, time-outs alone free every port of the server.
use Rattle.std.specs.Prelude.{◌≡◌, ℕ, ◌*◌, ◌≤◌, List, [], ◌∷◌, length}
use Rattle.archive_table.specs.Table.{all, empty_maps}
use Rattle.archive_model.specs.World.{server_times_out, WorldStep, World, run_from}

-- these ports time out, one after another; what is granted does not matter
abbrev pub time_out : (port : ℕ) → WorldStep
time_out port = record { event = server_times_out port; grant = all; maps = empty_maps }

abbrev pub time_outs : (ports : List ℕ) → List WorldStep
time_outs [] = []
time_outs (port ∷ ports) = time_out port ∷ time_outs ports

-- After so many time-outs as are five for each transfer none is live, and nothing else of the server has changed. So
-- a request that arrives then finds a place.
pub record IsFreed (w : World) : Type 0 where
  pub ports : List ℕ
  pub few : length ports ≤ 5 * length w.server.live
  pub idle : (run_from (time_outs ports) w).server.live ≡ []
  pub taken : (run_from (time_outs ports) w).taken ≡ w.taken
  pub maps : (run_from (time_outs ports) w).server.maps ≡ w.server.maps

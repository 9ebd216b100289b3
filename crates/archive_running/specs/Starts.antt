-- A chain of starts: each run of the archive begins with what the one before has left, and its server may be anywhere. All
-- else is new: the clients, and what the network brings.
use Rattle.std.specs.Prelude.{◌≡◌, ◌≢◌, ◌⊎◌, ℕ, List, [], ◌∷◌, ◌++◌, take, Contains, Some, Ok}
use Rattle.archive_table.specs.Table.{is_same, IsMerged}
use Rattle.std.specs.Map.{lookup}
use Rattle.tftp_packet.specs.declared.endpoint.Endpoint.{Endpoint}
use Rattle.archive_client.specs.declared.state.State.TheVariants.{Sent}
use Rattle.archive_client.specs.Client.{Client, state_of, file_or_client}
use Rattle.archive_model.specs.World.{Got, World, Origin, empty_origin, server_endpoint, IsPrefix}
use Rattle.archive_theorem.specs.Headline.{IsOwn, IsFinishedGet, files_of}
use Rattle.archive_running.specs.Archive.{ArchiveRun, world_of}

-- It begins with what this run has left: the collections that the server had, and as their texts the files taken.
pub record StartsFrom {o : Origin} (r : ArchiveRun o) (next : Origin) : Type 0 where
  pub texts : next.texts ≡ files_of r.archive.taken
  pub maps : next.maps ≡ r.archive.server.maps

-- It begins with one file more, which the run has not taken, and whose collection was kept all the same: the server ended in
-- that keep, or after one whose outcome it could not know.
pub record StartsWith {o : Origin} (r : ArchiveRun o) (next : Origin) : Type 0 where
  pub file : List ℕ
  pub texts : next.texts ≡ files_of r.archive.taken ++ file ∷ []
  pub merged : IsMerged file r.archive.server.maps next.maps

abbrev pub Starts : {o : Origin} → ArchiveRun o → Origin → Type 0
Starts r next = StartsFrom r next ⊎ StartsWith r next

-- The second run begins with what the first has left, at once or after others.
pub data Follows : (o : Origin) (r : ArchiveRun o) (p : Origin) (s : ArchiveRun p) → Type 0 where
  at_once : {o p : Origin} {r : ArchiveRun o} {s : ArchiveRun p} → Starts r p → Follows o r p s
  later : {o p q : Origin} {r : ArchiveRun o} {s : ArchiveRun p} {t : ArchiveRun q} → Follows o r p s → Starts s q →
      Follows o r q t

-- What a get has fetched is the best over files that begin with these.
pub record FetchesAll (files : List (List ℕ)) (w : World) (g : Got) : Type 0 where
  pub finished : IsFinishedGet w.past g
  pub all : IsPrefix files (files_of (take finished.opening.taken w.taken))

-- Each get of the second run whose ports are its own has fetched the best over files that begin with all those of the first.
abbrev pub FetchesEarlier : {o p : Origin} → ArchiveRun o → ArchiveRun p → Type 0
FetchesEarlier r s =
    (g : Got) → IsOwn (world_of s) g.client → Contains (world_of s).got g → FetchesAll (files_of r.archive.taken) (world_of s) g

-- ---- a sample

-- A put of this file is counted as sent in a run, and a server on another host that starts from what that run has left gives
-- the file to a get.
pub record CanStart (file : List ℕ) : Type 0 where
  pub first : ArchiveRun (empty_origin server_endpoint)
  pub putter : Endpoint
  pub sent : (c : Client) × (lookup (is_same putter) first.archive.clients ≡ Some c) × (state_of c ≡ Sent)
  pub next : Origin
  pub elsewhere : next.home.host ≢ server_endpoint.host
  pub starts : StartsFrom first next
  pub second : ArchiveRun next
  pub getter : Endpoint
  pub own : IsOwn (world_of second) getter
  pub got : (c : Client) × (lookup (is_same getter) second.archive.clients ≡ Some c) × (file_or_client c ≡ Ok file)

-- What holds for every run, about the operations that began, the files that were taken, sent and fetched, and the
-- collections.
use Rattle.std.specs.Prelude.{◌≡◌, ◌⊎◌, ℕ, ◌≤◌, List, [], ◌∷◌, ◌++◌, map, take, length, slice_get, Contains, Some}
use Rattle.tftp_packet.specs.declared.endpoint.Endpoint.{Endpoint}
use Rattle.tws_file.specs.declared.«ruleset».Ruleset.{Ruleset}
use Rattle.tws_file.specs.declared.«ruleset».Ruleset.TheVariants.{Lynx, Ms}
use Rattle.tws_best.specs.Best.{Collected, IsCollectionOf, collection_text, IsBestOver}
use Rattle.archive_table.specs.Table.{Taken}
use Rattle.archive_client.specs.Client.{put, get}
use Rattle.archive_model.specs.World.{Datagram, Begun, Origin, given, begin, stray, WorldStep, run_from, Opening, to_read, Got, Past, World}

-- ---- own ports: no port is reused

-- an operation began at this endpoint
abbrev pub HasOperation : List Begun → Endpoint → Type 0
HasOperation begun e = (b : Begun) × Contains begun b × (b.client ≡ e)

-- The ports of one endpoint are its own: at most one operation has begun there, no port of the server was opened for it
-- twice, and no stranger has sent from it.
pub record OwnsPorts (begun : List Begun) (opened : List Opening) (strays : List Datagram) (e : Endpoint) : Type 0 where
  pub operations : (i j : ℕ) (b c : Begun) → slice_get begun i ≡ Some b → slice_get begun j ≡ Some c → b.client ≡ e → c.client ≡ e → i ≡ j
  pub openings : (i j : ℕ) (o p : Opening) → slice_get opened i ≡ Some o → slice_get opened j ≡ Some p → o.peer ≡ e → p.peer ≡ e → o.port ≡ p.port → i ≡ j
  pub stranger : (d : Datagram) → Contains strays d → d.source ≡ e → ⊥

-- by what has happened
abbrev pub Owns : Past → Endpoint → Type 0
Owns past e = OwnsPorts past.begun past.opened past.strays e

abbrev pub IsOwn : World → Endpoint → Type 0
IsOwn w e = Owns w.past e

-- The same of all at once: no pair of endpoints serves two transfers, and no stranger takes the endpoint of an operation.
pub record OwnPorts (begun : List Begun) (opened : List Opening) (strays : List Datagram) : Type 0 where
  -- no two operations begin at one endpoint
  pub operations : (i j : ℕ) (b c : Begun) → slice_get begun i ≡ Some b → slice_get begun j ≡ Some c → b.client ≡ c.client → i ≡ j
  -- no two openings have the same peer and the same port
  pub openings : (i j : ℕ) (o p : Opening) → slice_get opened i ≡ Some o → slice_get opened j ≡ Some p → o.peer ≡ p.peer → o.port ≡ p.port → i ≡ j
  pub strangers : (d : Datagram) → Contains strays d → HasOperation begun d.source → ⊥

abbrev pub HasOwnPorts : World → Type 0
HasOwnPorts w = OwnPorts w.begun w.opened w.strays

-- ---- the files that were taken, as texts

abbrev pub files_of : List Taken → List (List ℕ)
files_of taken = map (λ (t : Taken). t.file) taken

-- ---- the four statements

-- this endpoint is a stranger's
abbrev pub IsStrayFrom : List Datagram → Endpoint → Type 0
IsStrayFrom strays e = (d : Datagram) × Contains strays d × (d.source ≡ e)

-- A file from the endpoint of an operation is taken at most once and unchanged: it is the file of the put there, and no
-- other file is taken from there. Every other file that is taken is a stranger's.
pub record TakenOnce (past : Past) : Type 0 where
  pub known : (t : Taken) → Contains past.taken t → HasOperation past.begun t.peer ⊎ IsStrayFrom past.strays t.peer
  pub unchanged : (t : Taken) → Contains past.taken t → HasOperation past.begun t.peer →
      (b : Begun) × Contains past.begun b × (b.client ≡ t.peer) × (b.operation ≡ put t.file)
  pub once : (i j : ℕ) (t u : Taken) → slice_get past.taken i ≡ Some t → slice_get past.taken j ≡ Some u → HasOperation past.begun t.peer → t.peer ≡ u.peer →
      i ≡ j

-- A file that a client counts as sent is taken exactly once: there is a put at its endpoint, and only that one file is
-- taken from there.
pub record SentOnce (past : Past) (e : Endpoint) : Type 0 where
  pub file : List ℕ
  pub began : (b : Begun) × Contains past.begun b × (b.client ≡ e) × (b.operation ≡ put file)
  pub position : ℕ
  pub is_taken : slice_get past.taken position ≡ Some (record { peer = e; file = file })
  pub only : (i : ℕ) (t : Taken) → slice_get past.taken i ≡ Some t → t.peer ≡ e → i ≡ position

-- What a get has fetched is the collection of its ruleset over the first files taken, as many as were taken when a
-- transfer to it was opened, and no fewer than when it began.
pub record IsFinishedGet (past : Past) (g : Got) : Type 0 where
  pub rules : Ruleset
  pub began : Begun
  pub has_begun : Contains past.begun began
  pub by : began.client ≡ g.client
  pub operation : began.operation ≡ get rules
  pub opening : Opening
  pub was_opened : Contains past.opened opening
  pub peer : opening.peer ≡ g.client
  pub asked : opening.asked ≡ to_read rules
  -- what was taken when the get began is in it
  pub since : began.taken ≤ opening.taken
  pub counted : opening.taken ≤ length past.taken
  pub best : IsBestOver rules (files_of (take opening.taken past.taken)) g.file

-- What holds for the client of one endpoint: whatever was taken from there is the file of the put there, and it was taken
-- once; if the client counts it as sent, it was taken; and what the client has fetched is the collection at one of its
-- own requests.
pub record ClientHeadline (past : Past) (e : Endpoint) : Type 0 where
  pub unchanged : (t : Taken) → Contains past.taken t → t.peer ≡ e →
      (b : Begun) × Contains past.begun b × (b.client ≡ e) × (b.operation ≡ put t.file)
  pub once : (i j : ℕ) (t u : Taken) → slice_get past.taken i ≡ Some t → slice_get past.taken j ≡ Some u → t.peer ≡ e → u.peer ≡ e → i ≡ j
  pub sent : Contains past.sent e → SentOnce past e
  pub got : (g : Got) → Contains past.got g → g.client ≡ e → IsFinishedGet past g

-- What holds whatever the network does and whoever reuses a port: the first files taken are the texts that the server had at
-- first, in their order, and each later one is from the endpoint of an operation or of a stranger; whoever counts a file
-- as sent, or has fetched one, has begun an operation; each collection is the best over the files taken; and each client
-- whose ports are its own has the headline, whatever others do.
pub record ClientsHeadline (o : Origin) (w : World) : Type 0 where
  pub first : take (length o.texts) w.taken ≡ map (given o.home) o.texts
  pub taken : (i : ℕ) (t : Taken) → length o.texts ≤ i → slice_get w.taken i ≡ Some t → HasOperation w.begun t.peer ⊎ IsStrayFrom w.strays t.peer
  pub sent : (e : Endpoint) → Contains w.sent e → HasOperation w.begun e
  pub got : (g : Got) → Contains w.got g → HasOperation w.begun g.client
  pub lynx : IsBestOver Lynx (files_of w.taken) (collection_text w.server.maps.lynx)
  pub ms : IsBestOver Ms (files_of w.taken) (collection_text w.server.maps.ms)
  pub client : (e : Endpoint) → HasOperation w.begun e → IsOwn w e → ClientHeadline w.past e

-- Whatever the network does: a put's file is taken at most once and unchanged, and exactly once if its client counts it
-- as sent. The collections are the best over the files taken. A finished get is the collection at one of its own
-- requests.
pub record Headline (w : World) : Type 0 where
  pub taken : TakenOnce w.past
  pub sent : (e : Endpoint) → Contains w.sent e → SentOnce w.past e
  pub lynx : IsBestOver Lynx (files_of w.taken) (collection_text w.server.maps.lynx)
  pub ms : IsBestOver Ms (files_of w.taken) (collection_text w.server.maps.ms)
  pub got : (g : Got) → Contains w.got g → IsFinishedGet w.past g

-- What was fetched by the second world is the best of this ruleset over the first files taken, no fewer than those of the
-- first world, in which the file of the put at this endpoint had been taken.
pub record IsFetchedWith (rules : Ruleset) (w v : World) (sent : Endpoint) (g : Got) : Type 0 where
  pub count : ℕ
  pub best : IsBestOver rules (files_of (take count v.taken)) g.file
  pub since : length w.taken ≤ count
  pub file : List ℕ
  pub began : (b : Begun) × Contains w.begun b × (b.client ≡ sent) × (b.operation ≡ put file)
  -- its place among the files taken
  pub position : ℕ
  pub is_taken : slice_get w.taken position ≡ Some (record { peer = sent; file = file })

-- What was counted as sent before a get began is in what it has fetched, if the ports of the get's endpoint are its own at
-- the end, and those of the sender's when the get began.
abbrev pub FetchesOwnSent : World → (before after : List WorldStep) → WorldStep → Type 0
FetchesOwnSent w before after s =
    (e : Endpoint) (rules : Ruleset) → s.event ≡ begin e (get rules) → IsOwn (run_from (before ++ s ∷ after) w) e →
    (x : Endpoint) → Contains (run_from before w).sent x → IsOwn (run_from before w) x →
    (g : Got) → Contains (run_from (before ++ s ∷ after) w).got g → g.client ≡ e →
    IsFetchedWith rules (run_from before w) (run_from (before ++ s ∷ after) w) x g

-- the same if no port is reused
abbrev pub FetchesSent : World → (before after : List WorldStep) → WorldStep → Type 0
FetchesSent w before after s =
    (e : Endpoint) (rules : Ruleset) → s.event ≡ begin e (get rules) →
    (x : Endpoint) → Contains (run_from before w).sent x →
    (g : Got) → Contains (run_from (before ++ s ∷ after) w).got g → g.client ≡ e →
    IsFetchedWith rules (run_from before w) (run_from (before ++ s ∷ after) w) x g

-- An operation that has begun in this run from a first world is that of an event, and it counts the files that were
-- taken before that event.
pub record BeganBy (w : World) (steps : List WorldStep) (b : Begun) : Type 0 where
  pub before : List WorldStep
  pub step : WorldStep
  pub after : List WorldStep
  pub split : steps ≡ before ++ step ∷ after
  pub event : step.event ≡ begin b.client b.operation
  pub counted : b.taken ≡ length (run_from before w).taken

-- The datagram entered the network by one of these steps.
abbrev pub StraysBy : List WorldStep → Datagram → Type 0
StraysBy [] d = ⊥
StraysBy (s ∷ steps) d = (s.event ≡ stray d) ⊎ StraysBy steps d

-- What a step adds to what has happened, and when what it changes is kept.
use Rattle.std.specs.Prelude.{◌≡◌, ◌≢◌, ◌⊎◌, List, [], ◌∷◌, ◌++◌, ℕ, Bool, length, slice_get, Contains, Some}
use Rattle.tftp_packet.specs.declared.endpoint.Endpoint.{Endpoint}
use Rattle.archive_table.specs.Table.{Maps, Taken, Grant, all}
use Rattle.archive_table.specs.Keeper.{Keeping, KeepsMaps}
use Rattle.archive_model.specs.World.{Datagram, Begun, Opening, Got, Past, World, Event, begin, deliver, stray, unknown_keep, asked_of, event_happens, MayHappen}
use Rattle.archive_model.specs.Restarts.{EventKeeps}

-- the same list, or with one more for which this holds
abbrev pub AddsOne : {A : Type 0} → (A → Type 0) → (old new : List A) → Type 0
AddsOne {A} Fits old new = (new ≡ old) ⊎ ((x : A) × (new ≡ old ++ x ∷ []) × Fits x)

-- The event delivers a datagram, with this spare port for a transfer, of which this holds.
pub record Delivers (event : Event) (past : Past) (Fits : (spare : ℕ) → Datagram → Type 0) : Type 0 where
  pub index : ℕ
  pub spare : ℕ
  pub datagram : Datagram
  pub event_is : event ≡ deliver index spare
  pub is : slice_get past.net index ≡ Some datagram
  pub fits : Fits spare datagram

-- It is a keep whose outcome is unknown, of a file that this datagram completes.
pub record Ends (event : Event) (past : Past) (Fits : Datagram → Type 0) : Type 0 where
  pub index : ℕ
  pub found : Bool
  pub datagram : Datagram
  pub event_is : event ≡ unknown_keep index found
  pub is : slice_get past.net index ≡ Some datagram
  pub fits : Fits datagram

-- a transfer is opened at a request: for its sender, at the spare port, for what it asks for
pub record OpensFor (o : Opening) (spare : ℕ) (d : Datagram) : Type 0 where
  pub peer : o.peer ≡ d.source
  pub port : o.port ≡ spare
  pub asked : o.asked ≡ asked_of d.bytes

-- An event adds at most one member to each list: an operation only if it is the begin of that one, and a stranger's
-- datagram only if it is that stray. Only a delivery adds a client whose file counts as sent or that has fetched one, which
-- is the receiver, or a transfer, which is opened for the sender. A file that is taken is from the sender of a datagram that
-- is delivered, or that the server received before it ended; then it is recovered. An operation and a transfer count how many
-- files had been taken by then.
pub record Adds (event : Event) (past later : Past) : Type 0 where
  pub home : later.home ≡ past.home
  pub net : AddsOne (λ (d : Datagram). Unit {0}) past.net later.net
  pub begun : AddsOne (λ (b : Begun). (event ≡ begin b.client b.operation) × (b.taken ≡ length past.taken)) past.begun later.begun
  pub taken : AddsOne (λ (t : Taken). Delivers event past (λ spare d. t.peer ≡ d.source) ⊎ Ends event past (λ d. t.peer ≡ d.source)) past.taken later.taken
  pub recovered : AddsOne (λ (t : Taken). Ends event past (λ d. t.peer ≡ d.source) × (later.taken ≡ past.taken ++ t ∷ [])) past.recovered later.recovered
  pub sent : AddsOne (λ (e : Endpoint). Delivers event past (λ spare d. e ≡ d.target)) past.sent later.sent
  pub got : AddsOne (λ (g : Got). Delivers event past (λ spare d. g.client ≡ d.target)) past.got later.got
  pub opened : AddsOne (λ (o : Opening). (o.taken ≡ length past.taken) × Delivers event past (OpensFor o)) past.opened later.opened
  pub strays : AddsOne (λ (d : Datagram). event ≡ stray d) past.strays later.strays

-- A stray that may happen is sent, and remembered as one.
abbrev pub StraysIn : World → Datagram → Grant → Maps → Type 0
StraysIn w d grant maps =
    MayHappen (stray d) w → Contains (event_happens (stray d) grant maps w).net d × Contains (event_happens (stray d) grant maps w).strays d

-- Only the transfers of the server end.
pub record OnlyEndsTransfers (w v : World) : Type 0 where
  pub live : v.server.live ≡ []
  pub request : v.server.request ≡ w.server.request
  pub maps : v.server.maps ≡ w.server.maps
  pub clients : v.clients ≡ w.clients
  pub past : v.past ≡ w.past

-- If a delivery changes the collections, and everything was granted, they are kept by the end of the same step.
abbrev pub KeepsChange : World → (index spare : ℕ) → Maps → (before after : List Keeping) → Type 0
KeepsChange w index spare maps before after =
    EventKeeps (deliver index spare) all w (event_happens (deliver index spare) all maps w) before after →
    (event_happens (deliver index spare) all maps w).server.maps ≢ w.server.maps →
    KeepsMaps w.server.maps (event_happens (deliver index spare) all maps w).server.maps (Some before) (Some after)

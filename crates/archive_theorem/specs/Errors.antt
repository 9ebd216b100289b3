-- What it means for a client that it failed: whether its file is taken, and what a get has fetched.
use Rattle.std.specs.Prelude.{◌≡◌, ℕ, slice_get, Contains, Some}
use Rattle.tftp_packet.specs.declared.endpoint.Endpoint.{Endpoint}
use Rattle.tftp_packet.specs.declared.cause.Cause.{Cause}
use Rattle.archive_table.specs.Table.{Taken}
use Rattle.archive_client.specs.Client.{Client, failed}
use Rattle.archive_model.specs.World.{Got, Past, World, client_at}

-- the client of this endpoint has failed for this cause
pub record HasFailed (w : World) (e : Endpoint) (why : Cause) : Type 0 where
  pub client : Client
  pub is : client_at e w ≡ Some client
  pub failed_by : client.phase ≡ failed why

-- No file from there was taken. The exception is one of which it was not known whether it was kept, which the next start found.
abbrev pub IsNotTaken : Past → Endpoint → Type 0
IsNotTaken past e =
    (t : Taken) → Contains past.taken t → t.peer ≡ e → Contains past.recovered t

-- at most one file from there was taken, once
abbrev pub IsTakenAtMostOnce : Past → Endpoint → Type 0
IsTakenAtMostOnce past e =
    (i j : ℕ) (t u : Taken) → slice_get past.taken i ≡ Some t → slice_get past.taken j ≡ Some u → t.peer ≡ e → u.peer ≡ e → i ≡ j

-- nothing was fetched there
abbrev pub HasFetchedNothing : Past → Endpoint → Type 0
HasFetchedNothing past e = (g : Got) → Contains past.got g → g.client ≡ e → ⊥

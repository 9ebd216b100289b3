-- What lasts: the collections never get worse, and what a load gives has all that was promised.
use Rattle.std.specs.Prelude.{◌≡◌, ◌⊎◌, ℕ, List, [], ◌∷◌, Contains, Some}
use Rattle.tftp_packet.specs.declared.endpoint.Endpoint.{Endpoint}
use Rattle.tws_file.specs.declared.«ruleset».Ruleset.{Ruleset}
use Rattle.tws_file.specs.declared.«ruleset».Ruleset.TheVariants.{Lynx, Ms}
use Rattle.tws_file.specs.Text.{File, IsText}
use Rattle.tws_best.specs.Rank.{rank_of, IsBelow}
use Rattle.tws_best.specs.Best.{KeyedBody, Collected, HasBody, solutions_of}
use Rattle.archive_table.specs.Table.{Maps, Taken, map_of}
use Rattle.archive_table.specs.Keeper.{Keeping, LoadedFrom}
use Rattle.archive_client.specs.Client.{put}
use Rattle.archive_model.specs.World.{Begun, Got, WorldStep, World, run_from, happens}
use Rattle.archive_theorem.specs.Headline.{IsOwn}
use Rattle.archive_model.specs.Restarts.{EventKeeps}

-- ---- collections

-- the collection has a body at the solution's key, and none of higher rank
pub record HasNoWorse (c : Collected) (e : KeyedBody) : Type 0 where
  pub body : List ℕ
  pub has : HasBody c.entries e.key body
  pub no_worse : IsBelow (rank_of e.body) (rank_of body) → ⊥

-- each collection has for each solution of the old one a body that is no worse
abbrev pub AreNoWorse : (old new : Maps) → Type 0
AreNoWorse old new =
    (rules : Ruleset) (e : KeyedBody) → Contains (map_of rules old).entries e → HasNoWorse (map_of rules new) e

-- The same for each solution of the file with this text. Other bytes have no solutions.
abbrev pub HoldsFile : Maps → (text : List ℕ) → Type 0
HoldsFile maps text =
    (f : File) → IsText text f → (rules : Ruleset) (e : KeyedBody) → Contains (solutions_of rules (f ∷ [])) e → HasNoWorse (map_of rules maps) e

-- ---- what was promised

-- The collections hold each file that was taken, each that a client counts as sent, and each collection that a client
-- has fetched; for the last two, the ports of that client are its own.
pub record HoldsPromised (w : World) (maps : Maps) : Type 0 where
  pub taken : (t : Taken) → Contains w.taken t → HoldsFile maps t.file
  pub sent : (e : Endpoint) → IsOwn w e → Contains w.sent e → (b : Begun) (file : List ℕ) → Contains w.begun b → b.client ≡ e → b.operation ≡ put file →
      HoldsFile maps file
  pub got : (g : Got) → IsOwn w g.client → Contains w.got g → HoldsFile maps g.file

-- What these steps from a first world have promised is in what a keeper with this list loads.
abbrev pub LoadsPromised : World → List WorldStep → List Keeping → Type 0
LoadsPromised w steps log =
    (lynx ms : Collected) → LoadedFrom Lynx (Some log) lynx → LoadedFrom Ms (Some log) ms → HoldsPromised (run_from steps w) (record { lynx = lynx; ms = ms })

-- A step that is cut short leaves the keeper with the list that it had, or with the list after the step.
abbrev pub CutsShort : World → List WorldStep → WorldStep → (before kept : List Keeping) → Type 0
CutsShort w steps s before kept =
    (after : List Keeping) × EventKeeps s.event s.grant (run_from steps w) (happens s (run_from steps w)) before after × ((kept ≡ before) ⊎ (kept ≡ after))

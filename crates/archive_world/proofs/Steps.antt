-- What a call of the machine does to its world, given what the call of the table or of the client returned.
use Rattle.std.specs.Prelude.{◌≡◌, ℕ, List, [], Option, Some, Result, Ok, Err, OnOk}
use Rattle.std.proofs.Common.{sym, ap, subst, ◌∙◌}
use Rattle.archive_table.specs.Table.{Table, Transfer, Step, Taken, Grant, all, Merges, table_datagram}
use Rattle.archive_table.specs.Table as table
use Rattle.archive_table.specs.Keeper.{HasLoaded, Keeping, StepKeeps, LoadedFrom}
use Rattle.tws_best.specs.Best.{Collected}
use Rattle.tws_file.specs.declared.«ruleset».Ruleset.TheVariants.{Lynx, Ms}
use Rattle.archive_model.specs.Restarts.{LoadsAs}
use Rattle.archive_theorem.proofs.Keeper_Loads.{loads-as}
use Rattle.archive_model.specs.World.{Datagram, World, after_transfer, restarts}
use Rattle.archive_world.specs.Inside.{ReceivesAtPort}

-- a property of a result gives way to a weaker one
pub on-ok : {T E : Type 0} {P Q : Type 0} (r : Result T E) → (P → Q) → OnOk r P → OnOk r Q
on-ok (Ok x) f p = f p
on-ok (Err e) f p = p

-- the server's step for a datagram at a port, by what is granted
abbrev asks : Grant → Table → Datagram → World → table.TableAnswer
asks grant server d w = table_datagram grant server.maps d.target.port d.source d.bytes w.server

-- the file that is taken if everything is granted
abbrev wants : Datagram → World → Option Taken
wants d w = (table_datagram all w.server.maps d.target.port d.source d.bytes w.server).step.taken

-- what the call has left is the world after that step
at-port-itself : (d : Datagram) (before after : Option (List Keeping)) (old : World) (grant : Grant) (server : Table) (step : Step) →
    server ≡ (asks grant server d old).server → step ≡ (asks grant server d old).step → Merges step.taken old.server.maps server.maps →
    StepKeeps grant (wants d old) old.server.maps server.maps before after →
    ReceivesAtPort d before after old (after_transfer (record { server = server; step = step }) old)
at-port-itself d before after old grant server step server-is step-is merges keeps =
    record {
      grant = grant;
      is = ap (λ (s : Table). after_transfer (record { server = s; step = step }) old) server-is
          ∙ ap (λ (t : Step). after_transfer (record { server = (asks grant server d old).server; step = t }) old) step-is;
      merges = rw (sym step-is) merges;
      keeps = keeps;
    }

-- a datagram at a port of the server
pub at-port : (d received : Datagram) (before after : Option (List Keeping)) (old seen new : World) → d ≡ received → old ≡ seen →
    (grant : Grant) (server : Table) (step : Step) → server ≡ (asks grant server received seen).server →
    step ≡ (asks grant server received seen).step → Merges step.taken seen.server.maps server.maps →
    StepKeeps grant (wants received seen) seen.server.maps server.maps before after →
    new ≡ after_transfer (record { server = server; step = step }) seen → ReceivesAtPort d before after old new
at-port d received before after old seen new d-is old-is grant server step server-is step-is merges keeps new-is =
    rw (d-is, old-is, new-is) (at-port-itself received before after seen grant server step server-is step-is merges keeps)

-- what is loaded is what the server had
pub restarts-same : (log : List Keeping) (old new : World) → LoadsAs log old.server.maps →
    LoadedFrom Lynx (Some log) new.server.maps.lynx → LoadedFrom Ms (Some log) new.server.maps.ms →
    new ≡ record old { server = record { request = old.server.request; maps = new.server.maps; live = [] } } → new ≡ restarts old
restarts-same log old new loads from-lynx from-ms is =
    let same = loads-as log old.server.maps loads new.server.maps.lynx new.server.maps.ms from-lynx from-ms in
    is
    ∙ ap (λ (c : Collected). record old { server = record { request = old.server.request; maps = record { lynx = c; ms = new.server.maps.ms }; live = [] } })
    same.0
    ∙ ap (λ (c : Collected). record old { server = record { request = old.server.request; maps = record { lynx = old.server.maps.lynx; ms = c }; live = [] } })
    same.1

-- the same for a call that may fail, and for a keeper that may have a log
pub restarted : {T E : Type 0} (r : Result T E) (old new : World) (reported : Option (List Keeping)) →
    OnOk r (HasLoaded old.server.request reported new.server) → OnOk r (new ≡ record old { server = new.server }) →
    OnOk r
    ((log : List Keeping) → reported ≡ Some log → LoadsAs log old.server.maps → new ≡ restarts old)
restarted (Ok x) old new reported loaded is = λ log reports loads.
    let make : ℕ → List (ℕ × Transfer) → Table = λ p live. record { request = p; maps = new.server.maps; live = live } in
    let server : make new.server.request new.server.live ≡ make old.server.request [] = (let port = loaded.port in let idle = loaded.idle in cc) in
    restarts-same log old new loads
    (subst (λ (o : Option (List Keeping)). LoadedFrom Lynx o new.server.maps.lynx) reports loaded.lynx)
    (subst (λ (o : Option (List Keeping)). LoadedFrom Ms o new.server.maps.ms) reports loaded.ms)
    (is ∙ ap (λ (s : Table). record old { server = s }) server)
restarted (Err e) old new reported loaded is = is

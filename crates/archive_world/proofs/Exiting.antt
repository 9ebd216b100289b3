-- What each event other than a delivery does, given the result of its call: it happens, may not happen, or reuses a
-- port.
use Rattle.std.specs.Prelude.{◌≡◌, ◌≢◌, ℕ, Bool, true, false, ◌==◌, List, [], ◌∷◌, ◌++◌, Option, None, Some, Result, Ok, Err, OnOk, IfErr}
use Rattle.std.proofs.Common.{refl, ap, sym, ◌∙◌, subst, inl}
use Rattle.std.proofs.lemmas.Bool.{true≢false}
use Rattle.tftp_packet.specs.declared.endpoint.Endpoint.{Endpoint}
use Rattle.archive_client.specs.Client.{Operation, Client, is_too_long}
use Rattle.archive_table.specs.Table.{Maps, Taken, Grant, all, IsMerged, transfer_at, empty_maps}
use Rattle.archive_table.specs.Keeper.{Keeping}
use Rattle.archive_world.specs.declared.event_fault.EventFault.{EventFault}
use Rattle.archive_world.specs.declared.event_fault.EventFault.TheVariants as fault
use Rattle.archive_model.specs.World.{Event, begin, deliver, client_times_out, server_times_out, stray, restart, unknown_keep, WorldStep, World, Datagram, has_begun, client_at, client_waits, restarts, taken_with, event_happens, HasMerged, MayHappen}
use Rattle.archive_theorem.specs.Headline.{HasOwnPorts}
use Rattle.archive_theorem.specs.Reuse.{IsUnused}
use Rattle.archive_model.specs.Restarts.{LoadsAs}
use Rattle.archive_theorem.specs.Traces.{comes}
use Rattle.archive_world.specs.Replays.{Makes}
use Rattle.archive_world.specs.Exits.{StaysThere, Comes}
use Rattle.archive_model.proofs.Growing.{step-extends}
use Rattle.archive_theorem.proofs.Server_Port.{run_same}
use Rattle.archive_theorem.proofs.Headline_Remains.{Remain, begins_remain, waits_remain, strays_remain, timeout_leaves}
use Rattle.archive_theorem.proofs.Port_Tests.{begin-keeps_own, stray-keeps_own}
use Rattle.archive_theorem.proofs.Headline_Total.{not_more}
use Rattle.archive_theorem.proofs.Trace_Runs.{begins_fits}
use Rattle.archive_model.proofs.Entries.{strays_fits}

-- an event leaves the server where it is
pub stays-there : (w v : World) (e : Event) (grant : Grant) (maps : Maps) → v ≡ event_happens e grant maps w → StaysThere w v
stays-there w v e grant maps is =
    let s : WorldStep = record { event = e; grant = grant; maps = maps } in
    (ap (λ (x : World). x.home) is ∙ (step-extends w s).home, ap (λ (x : World). x.server.request) is ∙ run_same (s ∷ []) w)

-- no file is taken, so none has to be merged
pub remain-merged : (w v : World) → Remain w v → (t : Taken) → v.taken ≡ w.taken ++ t ∷ [] → IsMerged t.file w.server.maps v.server.maps
remain-merged w v remain t e = not_more w.taken t (sym remain.0 ∙ e)

-- whether the event is a restart
abbrev pub is_restart : Event → Bool
is_restart (begin e operation) = false
is_restart (deliver index spare) = false
is_restart (client_times_out e) = false
is_restart (server_times_out port) = false
is_restart (stray d) = false
is_restart restart = true
is_restart (unknown_keep index found) = false

-- no event of another kind is a restart
pub no_restart : (e : Event) → is_restart e ≡ false → e ≡ restart → ⊥
no_restart e other is = true≢false (sym (ap is_restart is) ∙ other)

-- ---- a begin

module _ (w v : World) (e : Endpoint) (operation : Operation) where
  -- the world after that
  abbrev begun : World
  begun = event_happens (begin e operation) all empty_maps w

  -- no file is taken
  begun_merged : HasMerged (record { event = begin e operation; grant = all; maps = empty_maps }) w
  begun_merged = remain-merged w begun (begins_remain w (e.host == w.home.host) (is_too_long operation) e operation)

  -- no port is reused only if nothing was at the endpoint
  begun_own : MayHappen (begin e operation) w → HasOwnPorts w → HasOwnPorts begun → IsUnused e w
  begun_own may own later = (begin-keeps_own w own e operation).0 (subst HasOwnPorts (begins_fits w e operation may.0 may.1) later)

  -- what it does to the world and the keeper
  begun_makes : v ≡ begun → MayHappen (begin e operation) w → IsUnused e w → (reported : Option (List Keeping)) →
      Makes (begin e operation) reported reported w v
  begun_makes is may unused reported =
      record {
        grant = all;
        maps = empty_maps;
        is = is;
        may = may;
        own = λ own. subst HasOwnPorts (sym (is ∙ begins_fits w e operation may.0 may.1)) ((begin-keeps_own w own e operation).1 unused);
        merged = begun_merged;
        due = tt;
        keeps = λ before reports. (before, reports, (refl, tt));
      }

  -- the result of the call for a begin
  pub begin-comes : (r : Result (Unit {0}) EventFault) (reported : Option (List Keeping)) → OnOk r (v ≡ begun) →
      OnOk r (MayHappen (begin e operation) w) → OnOk r (IsUnused e w) → (r ≡ Err fault.Bad → MayHappen (begin e operation) w → ⊥) →
      (r ≡ Err fault.Reused → MayHappen (begin e operation) w) → (r ≡ Err fault.Reused → IsUnused e w → ⊥) → r ≢ Err fault.NotKept →
      r ≢ Err fault.NotLoaded → Comes r (begin e operation) reported reported w v
  begin-comes (Ok done) reported is may unused bad reused used keeps loads = (
    stays-there w v (begin e operation) all empty_maps is,
    λ ready. begun_makes is may unused reported,
  )
  begin-comes (Err fault.Bad) reported is may unused bad reused used keeps loads = (refl, λ may due. bad refl may)
  begin-comes (Err fault.Reused) reported is may unused bad reused used keeps loads = (
    refl,
    λ own. record {
      may = reused refl;
      grant = all;
      maps = empty_maps;
      merged = begun_merged;
      reused = λ later. used refl (begun_own (reused refl) own later);
    },
  )
  begin-comes (Err fault.NotKept) reported is may unused bad reused used keeps loads = absurd (keeps refl)
  begin-comes (Err fault.NotLoaded) reported is may unused bad reused used keeps loads = absurd (loads refl)
  begin-comes (Err fault.Memory) reported is may unused bad reused used keeps loads = (no_restart (begin e operation) refl, inl refl)

-- ---- a stray

module _ (w v : World) (d : Datagram) where
  -- the world after that
  abbrev strayed : World
  strayed = event_happens (stray d) all empty_maps w

  -- what it does to the world and the keeper
  strayed_makes : v ≡ strayed → MayHappen (stray d) w → (reported : Option (List Keeping)) → Makes (stray d) reported reported w v
  strayed_makes is may reported =
      record {
        grant = all;
        maps = empty_maps;
        is = is;
        may = may;
        own = λ own. subst HasOwnPorts (sym (is ∙ strays_fits w d may.0 may.1)) ((stray-keeps_own w own d).1 may.1);
        merged = remain-merged w strayed (strays_remain w (d.source.host == w.home.host) (has_begun d.source w.begun) d);
        due = tt;
        keeps = λ before reports. (before, reports, (refl, tt));
      }

  -- the result of the call for a stray
  pub stray-comes : (r : Result (Unit {0}) EventFault) (reported : Option (List Keeping)) → OnOk r (v ≡ strayed) →
      OnOk r (MayHappen (stray d) w) → (r ≡ Err fault.Bad → MayHappen (stray d) w → ⊥) → r ≢ Err fault.Reused → r ≢ Err fault.NotKept →
      r ≢ Err fault.NotLoaded → Comes r (stray d) reported reported w v
  stray-comes (Ok done) reported is may bad own keeps loads = (
    stays-there w v (stray d) all empty_maps is,
    λ ready. strayed_makes is may reported,
  )
  stray-comes (Err fault.Bad) reported is may bad own keeps loads = (refl, λ may due. bad refl may)
  stray-comes (Err fault.Reused) reported is may bad own keeps loads = absurd (own refl)
  stray-comes (Err fault.NotKept) reported is may bad own keeps loads = absurd (keeps refl)
  stray-comes (Err fault.NotLoaded) reported is may bad own keeps loads = absurd (loads refl)
  stray-comes (Err fault.Memory) reported is may bad own keeps loads = (no_restart (stray d) refl, inl refl)

-- ---- time-outs

module _ (w v : World) (e : Endpoint) where
  -- the world after that
  abbrev waited : World
  waited = event_happens (client_times_out e) all empty_maps w

  -- no port is reused
  waited_own : (found : Option Client) → HasOwnPorts w → HasOwnPorts (client_waits found e w)
  waited_own None own = own
  waited_own (Some c) own =
      record { operations = own.operations; openings = own.openings; strangers = own.strangers }

  -- what it does to the world and the keeper
  waited_makes : v ≡ waited → MayHappen (client_times_out e) w → (reported : Option (List Keeping)) → Makes (client_times_out e) reported reported w v
  waited_makes is may reported =
      record {
        grant = all;
        maps = empty_maps;
        is = is;
        may = may;
        own = λ own. subst HasOwnPorts (sym is) (waited_own (client_at e w) own);
        merged = remain-merged w waited (waits_remain w (client_at e w) e);
        due = tt;
        keeps = λ before reports. (before, reports, (refl, tt));
      }

  -- the result of the call for a client's time-out
  pub wait-comes : (r : Result (Unit {0}) EventFault) (reported : Option (List Keeping)) → OnOk r (v ≡ waited) →
      OnOk r (MayHappen (client_times_out e) w) → (r ≡ Err fault.Bad → MayHappen (client_times_out e) w → ⊥) → r ≢ Err fault.Reused →
      r ≢ Err fault.NotKept → r ≢ Err fault.NotLoaded → Comes r (client_times_out e) reported reported w v
  wait-comes (Ok done) reported is may bad own keeps loads = (
    stays-there w v (client_times_out e) all empty_maps is,
    λ ready. waited_makes is may reported,
  )
  wait-comes (Err fault.Bad) reported is may bad own keeps loads = (refl, λ may due. bad refl may)
  wait-comes (Err fault.Reused) reported is may bad own keeps loads = absurd (own refl)
  wait-comes (Err fault.NotKept) reported is may bad own keeps loads = absurd (keeps refl)
  wait-comes (Err fault.NotLoaded) reported is may bad own keeps loads = absurd (loads refl)
  wait-comes (Err fault.Memory) reported is may bad own keeps loads = (no_restart (client_times_out e) refl, inl refl)

module _ (w v : World) (port : ℕ) where
  -- the world after that
  abbrev timed : World
  timed = event_happens (server_times_out port) all empty_maps w

  -- no file is taken
  timed_taken : timed.taken ≡ w.taken
  timed_taken = ap (λ (o : Option Taken). taken_with o w.taken) (timeout_leaves (transfer_at port w.server) port w.server).0

  -- what it does to the world and the keeper
  timed_makes : v ≡ timed → (reported : Option (List Keeping)) → Makes (server_times_out port) reported reported w v
  timed_makes is reported =
      record {
        grant = all;
        maps = empty_maps;
        is = is;
        may = tt;
        own = λ own. subst HasOwnPorts (sym is) (record { operations = own.operations; openings = own.openings; strangers = own.strangers });
        merged = remain-merged w timed (timed_taken, (timeout_leaves (transfer_at port w.server) port w.server).1);
        due = tt;
        keeps = λ before reports. (before, reports, (refl, tt));
      }

  -- the result of the call for a time-out of the server
  pub time-comes : (r : Result (Unit {0}) EventFault) (reported : Option (List Keeping)) → OnOk r (v ≡ timed) →
      IfErr r (λ f. f ≡ fault.Memory) → Comes r (server_times_out port) reported reported w v
  time-comes (Ok done) reported is memory = (
    stays-there w v (server_times_out port) all empty_maps is,
    λ ready. timed_makes is reported,
  )
  time-comes (Err fault.Bad) reported is memory = absurd cc
  time-comes (Err fault.Reused) reported is memory = absurd cc
  time-comes (Err fault.NotKept) reported is memory = absurd cc
  time-comes (Err fault.NotLoaded) reported is memory = absurd cc
  time-comes (Err fault.Memory) reported is memory = (no_restart (server_times_out port) refl, inl refl)

-- ---- a restart

module _ (w v : World) (reported now : Option (List Keeping)) (same : now ≡ reported) where
  -- what it does to the world and the keeper
  restart_makes : v ≡ restarts w → Makes restart reported now w v
  restart_makes is =
      record {
        grant = all;
        maps = empty_maps;
        is = is;
        may = tt;
        own = λ own. subst HasOwnPorts (sym is) (record { operations = own.operations; openings = own.openings; strangers = own.strangers });
        merged = remain-merged w (restarts w) (refl, refl);
        due = tt;
        keeps = λ before reports. (before, same ∙ reports, (λ rules. refl, refl));
      }

  -- the result of the call for a restart
  pub restart-comes : v.home ≡ w.home → v.server.request ≡ w.server.request →
      ((log : List Keeping) → reported ≡ Some log → LoadsAs log w.server.maps → v ≡ restarts w) →
      Comes (Ok tt) restart reported now w v
  restart-comes home request made = (
    (home, request),
    λ ready. let has = ready refl in
        restart_makes (made has.log has.reports has.loads),
  )

-- the same for an event that equals this one
pub comes-at : (e f : Event) (r : Result (Unit {0}) EventFault) (old new : Option (List Keeping)) (w v : World) → e ≡ f →
    Comes r f old new w v → Comes r e old new w v
comes-at e f r old new w v is comes = subst (λ (x : Event). Comes r x old new w v) (sym is) comes

-- A keep with an unknown outcome: what the record of the table's step leaves, and the event that it and the restart make.
use Rattle.std.specs.Prelude.{◌≡◌, ◌≢◌, ◌==◌, ℕ, Bool, true, false, List, [], ◌∷◌, ◌++◌, slice_get, Option, None, Some, Result, Ok, Err}
use Rattle.std.proofs.Common.{refl, sym, ap, ◌∙◌, subst, inl, inr}
use Rattle.std.proofs.lemmas.Bool.{eq-eqb, ne_eqb}
use Rattle.tftp_packet.specs.declared.endpoint.Endpoint.{Endpoint}
use Rattle.tftp_packet.specs.declared.out.Out.{Out}
use Rattle.tftp_packet.specs.Refusal.{refusal_packet}
use Rattle.tftp_packet.specs.declared.refusal.Refusal.TheVariants.{NotKept}
use Rattle.tws_file.specs.declared.«ruleset».Ruleset.TheVariants.{Lynx, Ms}
use Rattle.tws_best.specs.Best.{Collected}
use Rattle.archive_table.specs.Table.{Table, Maps, Taken, Step, TableAnswer, Grant, all, no_memory, unkept, grant_of, out_from, transfer_at, table_datagram, IsMerged, Merges}
use Rattle.archive_table.specs.Events.{Reported, made, IsDatagramEvent, TakesAs}
use Rattle.archive_table.specs.Keeper.{Keeping, KeepsOne, KeepsMaps, RefusesKeep, StepKeeps}
use Rattle.archive_table.proofs.Grants.{keeps_nothing}
use Rattle.archive_model.specs.World.{Datagram, Event, World, WorldStep, server_endpoint, unknown_keep, after_transfer, net_with, wanted_at, wanted_of, wanted_by, ends, ends_if, ends_at, restarts, happens, HasMerged, MayEnd}
use Rattle.archive_model.specs.Restarts.{LoadsAs}
use Rattle.archive_model.proofs.Sources.{wanted-completes}
use Rattle.archive_theorem.specs.Headline.{HasOwnPorts}
use Rattle.archive_theorem.proofs.Claim_Invariant.{AreBest}
use Rattle.archive_theorem.proofs.Headline_Remains.{TakesOrLeaves, found_takes}
use Rattle.archive_theorem.proofs.Headline_Total.{not_more, one_last}
use Rattle.tws_best.proofs.Collections.{best-collected}
use Rattle.archive_theorem.proofs.Headline_Collections.{step-best}
use Rattle.archive_theorem.proofs.Keeper_Loads.{step-loads_as}
use Rattle.archive_theorem.proofs.Keeper_Runs.{own-ruleset}
use Rattle.archive_world.specs.declared.event_fault.EventFault.{EventFault}
use Rattle.archive_world.specs.declared.event_fault.EventFault.TheVariants as fault
use Rattle.archive_world.specs.Replays.{Changes, WouldChange, Makes}
use Rattle.archive_world.specs.Ending.{completed, recovers, Ends, EndsBy, fault_by, improves, TakesNone, FoundBy, LostBy}
use Rattle.archive_world.specs.Exits.{Comes}
use Rattle.archive_world.proofs.Steps.{at-port}
use Rattle.archive_world.proofs.Exiting.{no_restart}
use Rattle.archive_world.proofs.Delivering.{none_some, changed_of, reported_after, stepped_makes}
use Rattle.archive_world.proofs.Refusing.{found_refuses, event_takes, improved, unimproved, both_maps, one_merged}

-- ---- a grant by the fault

by_bad : (grant : Grant) → fault_by grant ≡ fault.Bad → grant ≡ all
by_bad all is = refl
by_bad no_memory is = absurd cc
by_bad unkept is = absurd cc

by_memory : (grant : Grant) → fault_by grant ≡ fault.Memory → grant ≡ no_memory
by_memory all is = absurd cc
by_memory no_memory is = refl
by_memory unkept is = absurd cc

by_unkept : (grant : Grant) → fault_by grant ≡ fault.NotKept → grant ≡ unkept
by_unkept all is = absurd cc
by_unkept no_memory is = absurd cc
by_unkept unkept is = refl

all_other : all ≢ unkept
all_other is = absurd cc

memory_other : no_memory ≢ unkept
memory_other is = absurd cc

one_some : (o : Option Taken) (t u : Taken) → o ≡ Some t → o ≡ Some u → t ≡ u
one_some o t u is also = let both : Some t ≡ Some u = sym is ∙ also in cc

-- ---- a keeper that is given nothing

one_kept : (old new : Collected) → KeepsOne old new (Some []) (Some []) → new ≡ old
one_kept old new (inl stays) = stays.0
one_kept old new (inr changes) = absurd cc

-- a keeper whose list stays empty has kept nothing
none_kept : (old new : Maps) → KeepsMaps old new (Some []) (Some []) → new ≡ old
none_kept old new (inl lynx) = both_maps new old (one_kept old.lynx new.lynx lynx.1) lynx.0
none_kept old new (inr ms) = both_maps new old ms.0 (one_kept old.ms new.ms ms.1)

-- what was merged and changed a collection was a file
some_merged : (o : Option Taken) (old new : Maps) → Merges o old new → new ≢ old → (t : Taken) × (o ≡ Some t) × IsMerged t.file old new
some_merged None old new merges changes = absurd (changes merges)
some_merged (Some t) old new merges changes = (t, refl, merges)

-- ---- a step of the table, and its record

module _ (d : Datagram) (w : World) (s : Table) (step : Reported)
    (server_is : s ≡ (table_datagram (grant_of step.out) s.maps d.target.port d.source d.bytes w.server).server)
    (step_is : made step ≡ (table_datagram (grant_of step.out) s.maps d.target.port d.source d.bytes w.server).step)
    (did : IsDatagramEvent (transfer_at d.target.port w.server) d.source d.bytes w.server.maps s.maps (made step) step.event)
    (merges : Merges step.taken w.server.maps s.maps) (request : s.request ≡ w.server.request) (home : w.home ≡ server_endpoint) where
  -- what was granted
  abbrev grant : Grant
  grant = grant_of step.out

  -- the answers
  abbrev answer : Grant → Maps → TableAnswer
  answer g maps = table_datagram g maps d.target.port d.source d.bytes w.server

  takes : TakesOrLeaves grant (answer grant) w.server
  takes = found_takes (transfer_at d.target.port w.server) grant d.target.port d.source d.bytes w.server

  -- it takes what the answer takes
  taken_is : step.taken ≡ (answer grant s.maps).step.taken
  taken_is = ap (λ (x : Step). x.taken) step_is

  taken_by : (t : Taken) → step.taken ≡ Some t → TakesOrLeaves grant (answer grant) w.server → (grant ≡ all) × (completed d w ≡ Some t)
  taken_by t is (inl leaves) =
      absurd (none_some t (sym (taken_is ∙ ap (λ (a : TableAnswer). a.step.taken) (leaves.2 s.maps) ∙ leaves.1.0) ∙ is))
  taken_by t is (inr one) =
      let here : Some one.0 ≡ Some t = sym (taken_is ∙ (one.1 s.maps).0) ∙ is in (
        one.2,
        subst (λ (g : Grant). (answer g w.server.maps).step.taken ≡ Some t) one.2 ((one.1 w.server.maps).0 ∙ here),
      )

  none_by : step.taken ≡ None → grant ≡ all → TakesOrLeaves grant (answer grant) w.server → completed d w ≡ None
  none_by none is (inl leaves) =
      subst (λ (g : Grant). (answer g w.server.maps).step.taken ≡ None) is
      (ap (λ (a : TableAnswer). a.step.taken) (leaves.2 w.server.maps) ∙ leaves.1.0)
  none_by none is (inr one) = absurd (none_some one.0 (sym none ∙ taken_is ∙ (one.1 s.maps).0))

  -- without a file the collections are the same
  same_maps : step.taken ≡ None → s.maps ≡ w.server.maps
  same_maps none = subst (λ (o : Option Taken). Merges o w.server.maps s.maps) none merges

  merged_is : (t : Taken) → step.taken ≡ Some t → IsMerged t.file w.server.maps s.maps
  merged_is t is = subst (λ (o : Option Taken). Merges o w.server.maps s.maps) is merges

  event_is : (t : Taken) → step.taken ≡ Some t → TakesAs t.file w.server.maps s.maps step.event
  event_is t is =
      event_takes grant s.maps d.target.port d.source w.server w.server.maps s.maps (made step) step.event t is d.bytes
      (transfer_at d.target.port w.server) step_is did

  -- no file that changes a collection is completed
  abbrev CompletesNone : Type 0
  CompletesNone = (t : Taken) → completed d w ≡ Some t → Changes t w.server.maps → ⊥

  none_there : TakesNone step fault.Bad → CompletesNone
  none_there none = λ t is changes. none_some t (sym (none_by none.0 (by_bad grant none.1) takes) ∙ is)

  unchanged_there : (t : Taken) → step.taken ≡ Some t → s.maps ≡ w.server.maps → CompletesNone
  unchanged_there t is same = λ u completes changes.
      let one : t ≡ u = one_some (completed d w) t u (taken_by t is takes).1 completes in
      let merged : IsMerged t.file w.server.maps changes.0 =
      subst (λ (x : Taken). IsMerged x.file w.server.maps changes.0) (sym one) changes.1 in
      changes.2 (one_merged t.file w.server.maps changes.0 s.maps merged (merged_is t is) ∙ same)

  -- the server after the step
  abbrev stepped : World
  stepped = record w { server = s }

  -- what is sent if the file is not kept
  refusal_is : (t : Taken) (maps : Maps) → completed d w ≡ Some t → (answer unkept maps).step.out ≡ (answer unkept s.maps).step.out
  refusal_is t maps is =
      let by : (m : Maps) → _ = λ m. found_refuses (transfer_at d.target.port w.server) w.server.maps m d.target.port d.source d.bytes w.server t is in
      by maps ∙ sym (by s.maps)

  -- ---- the next start finds the collection

  module _ (before after : Option (List Keeping)) (keeps : StepKeeps grant (completed d w) w.server.maps s.maps before after)
      (untouched : grant ≢ unkept → s.maps ≡ w.server.maps → after ≡ before) where
    found_ends : (t : Taken) → step.taken ≡ Some t → improves step.event ≡ true → (u : World) → u ≡ recovers d.target.port t stepped →
        Ends true d before after w u
    found_ends t is better u u_is =
        let whole = taken_by t is takes in
        let make : (port host : ℕ) → Option Out → World = λ port host out. record w {
          server = record { request = port; maps = s.maps; live = [] };
          past = record w.past { net = net_with host w.net out; taken = w.taken ++ t ∷ []; recovered = w.recovered ++ t ∷ [] };
        } in
        let out = found_refuses (transfer_at d.target.port w.server) w.server.maps s.maps d.target.port d.source d.bytes w.server t whole.1 in
        record {
          file = t;
          completes = whole.1;
          maps = s.maps;
          merged = merged_is t is;
          changes = improved t.file w.server.maps s.maps step.event (event_is t is) better;
          maps_is = ap (λ (x : World). x.server.maps) u_is;
          home = ap (λ (x : World). x.home) u_is;
          request = ap (λ (x : World). x.server.request) u_is ∙ request;
          is = ap restarts u_is
              ∙ ap (λ (p : ℕ). make p server_endpoint.host (Some (out_from d.target.port t.peer (refusal_packet NotKept)))) request
              ∙ ap (λ (h : ℕ). make w.server.request h (Some (out_from d.target.port t.peer (refusal_packet NotKept))))
              (sym (ap (λ (e : Endpoint). e.host) home))
              ∙ ap (make w.server.request w.home.host) (sym out);
          keeps = subst (λ (m : Maps). KeepsMaps w.server.maps m before after) (sym (ap (λ (x : World). x.server.maps) u_is))
              (subst (λ (g : Grant). StepKeeps g (completed d w) w.server.maps s.maps before after) whole.0 keeps);
        }

    found_by : (r : Result (Unit {0}) EventFault) (new : World) → FoundBy r d.target.port step stepped new → EndsBy r true d before after w new
    found_by (Ok done) new by = found_ends by.0 by.1 by.2 new by.3
    found_by (Err fault.Bad) new (inl none) =
        (untouched (λ e. all_other (sym (by_bad grant none.1) ∙ e)) (same_maps none.0), none_there none)
    found_by (Err fault.Bad) new (inr same) =
        let there = unimproved same.0.file w.server.maps s.maps step.event (event_is same.0 same.1) same.2 in
        (untouched (λ e. all_other (sym (taken_by same.0 same.1 takes).0 ∙ e)) there, unchanged_there same.0 same.1 there)
    found_by (Err fault.Reused) new by = by
    found_by (Err fault.NotKept) new none =
        let u = after_transfer (record { server = s; step = made step }) w in
        (refl, (u, at-port d d before after w w u refl refl grant s (made step) server_is step_is merges keeps refl))
    found_by (Err fault.NotLoaded) new by = by
    found_by (Err fault.Memory) new (inl none) =
        inl (untouched (λ e. memory_other (sym (by_memory grant none.1) ∙ e)) (same_maps none.0))
    found_by (Err fault.Memory) new (inr whole) =
        inr (recovers d.target.port whole.0 stepped, found_ends whole.0 whole.1 whole.2 (recovers d.target.port whole.0 stepped) refl)

  -- ---- it does not find it

  module _ (keeps : StepKeeps grant (completed d w) w.server.maps s.maps (Some []) (Some [])) (log : Option (List Keeping)) where
    lost_ends : TakesNone step fault.NotKept → (u : World) →
        u ≡ record stepped { past = record stepped.past { net = net_with server_endpoint.host w.net step.out } } →
        Ends false d log log w u
    lost_ends none u u_is =
        let lost : grant ≡ unkept = by_unkept grant none.1 in
        let refused : RefusesKeep (completed d w) w.server.maps (Some []) (Some []) =
        subst (λ (g : Grant). StepKeeps g (completed d w) w.server.maps s.maps (Some []) (Some [])) lost keeps in
        let changes : refused.0 ≢ w.server.maps = changed_of w.server.maps refused.0 (Some []) (Some []) refused.2 in
        let whole = some_merged (completed d w) w.server.maps refused.0 refused.1 changes in
        let maps_is : u.server.maps ≡ w.server.maps = ap (λ (x : World). x.server.maps) u_is ∙ same_maps none.0 in
        let make : (port : ℕ) → Maps → (host : ℕ) → Option Out → World = λ port maps host out. record w {
          server = record { request = port; maps = maps; live = [] };
          past = record w.past { net = net_with host w.net out };
        } in
        let out : step.out ≡ (answer unkept refused.0).step.out =
        ap (λ (x : Step). x.out) step_is ∙ ap (λ (g : Grant). (answer g s.maps).step.out) lost ∙ sym (refusal_is whole.0 refused.0 whole.1) in
        record {
          file = whole.0;
          completes = whole.1;
          maps = refused.0;
          merged = whole.2;
          changes = changes;
          maps_is = maps_is;
          home = ap (λ (x : World). x.home) u_is;
          request = ap (λ (x : World). x.server.request) u_is ∙ request;
          is = ap restarts u_is
              ∙ ap (λ (p : ℕ). make p s.maps server_endpoint.host step.out) request
              ∙ ap (λ (m : Maps). make w.server.request m server_endpoint.host step.out) (same_maps none.0)
              ∙ ap (λ (h : ℕ). make w.server.request w.server.maps h step.out) (sym (ap (λ (e : Endpoint). e.host) home))
              ∙ ap (make w.server.request w.server.maps w.home.host) out;
          keeps = subst (λ (m : Maps). KeepsMaps w.server.maps m log log) (sym maps_is) (keeps_nothing all None w.server.maps log all_other);
        }

    lost_by : (r : Result (Unit {0}) EventFault) (new : World) → LostBy r step stepped new → EndsBy r false d log log w new
    lost_by (Ok done) new by = lost_ends by.0 new by.1
    lost_by (Err fault.Bad) new (inl none) = (refl, none_there none)
    lost_by (Err fault.Bad) new (inr whole) =
        let granted = (taken_by whole.0 whole.1 takes).0 in
        let same = none_kept w.server.maps s.maps
        (subst (λ (g : Grant). StepKeeps g (completed d w) w.server.maps s.maps (Some []) (Some [])) granted keeps) in
        (refl, unchanged_there whole.0 whole.1 same)
    lost_by (Err fault.Reused) new by = by
    lost_by (Err fault.NotKept) new by = absurd by
    lost_by (Err fault.NotLoaded) new by = by
    lost_by (Err fault.Memory) new by = inl refl

-- the same for a machine, which lends parts of its world and of the datagram
module _ (d received : Datagram) (d_is : d ≡ received) (w seen : World) (w_is : w ≡ seen) (s : Table) (step : Reported)
    (server_is : s ≡ (table_datagram (grant_of step.out) s.maps received.target.port received.source received.bytes seen.server).server)
    (step_is : made step ≡ (table_datagram (grant_of step.out) s.maps received.target.port received.source received.bytes seen.server).step)
    (did : IsDatagramEvent (transfer_at received.target.port seen.server) received.source received.bytes seen.server.maps s.maps (made step) step.event)
    (merges : Merges step.taken seen.server.maps s.maps) (request : s.request ≡ seen.server.request) (home : w.home ≡ server_endpoint) where
  -- the server is at its endpoint
  seen_home : seen.home ≡ server_endpoint
  seen_home = sym (ap (λ (x : World). x.home) w_is) ∙ home

  -- the next start finds the collection
  pub found-ends : (before after : Option (List Keeping)) →
      StepKeeps (grant_of step.out) (completed received seen) seen.server.maps s.maps before after →
      (grant_of step.out ≢ unkept → s.maps ≡ seen.server.maps → after ≡ before) →
      (r : Result (Unit {0}) EventFault) (new : World) → FoundBy r received.target.port step (record seen { server = s }) new →
      EndsBy r true d before after w new
  found-ends before after keeps untouched r new by =
      rw (d_is, w_is) (found_by received seen s step server_is step_is did merges request seen_home before after keeps untouched r new by)

  -- it does not find it
  pub lost-ends : StepKeeps (grant_of step.out) (completed received seen) seen.server.maps s.maps (Some []) (Some []) →
      (log : Option (List Keeping)) (r : Result (Unit {0}) EventFault) (new : World) → LostBy r step (record seen { server = s }) new →
      EndsBy r false d log log w new
  lost-ends keeps log r new by =
      rw (d_is, w_is) (lost_by received seen s step server_is step_is did merges request seen_home keeps log r new by)

-- ---- the event

module _ (w v : World) (d : Datagram) (index : ℕ) (there : slice_get w.net index ≡ Some d) where
  -- a datagram that is not at a port of the server's transfers completes no file
  away_none : (P : Type 0) → ((file : Taken) → wanted_of (d.target.host == w.home.host) d w ≡ Some file → ⊥) → MayEnd index w → P
  away_none P never may =
      let both : Some may.datagram ≡ Some d = sym may.is ∙ there in
      let same : may.datagram ≡ d = cc in
      absurd (never may.file (subst (λ (x : Datagram). wanted_of (x.target.host == w.home.host) x w ≡ Some may.file) same may.completes))

  pub away-bad : (found : Bool) (log : Option (List Keeping)) → d.target.host ≢ w.home.host → Comes (Err fault.Bad) (unknown_keep index found) log log w v
  away-bad found log away =
      (refl, λ may due. away_none ⊥ (λ file is. away (wanted-completes w d file is).ours) may)

  pub request-bad : (found : Bool) (log : Option (List Keeping)) → d.target.port ≡ w.server.request →
      Comes (Err fault.Bad) (unknown_keep index found) log log w v
  request-bad found log at =
      (refl, λ may due. away_none ⊥ (λ file is. (wanted-completes w d file is).other at) may)

  module _ (ours : d.target.host ≡ w.home.host) (other : d.target.port ≢ w.server.request) where
    wanted_is : wanted_of (d.target.host == w.home.host) d w ≡ completed d w
    wanted_is =
        ap (λ (b : Bool). wanted_of b d w) (eq-eqb d.target.host w.home.host ours)
        ∙ ap (λ (b : Bool). wanted_at b d w) (ne_eqb d.target.port w.server.request other)

    module _ (found : Bool) (before after : Option (List Keeping)) where
      -- the event
      abbrev event : Event
      event = unknown_keep index found

      module _ (mid : World) (e : Ends found d before after w mid) where
        -- the step that it makes
        abbrev step : WorldStep
        step = record { event = event; grant = all; maps = e.maps }

        -- the world after it
        then_is : happens step w ≡ ends found e.file e.maps d w
        then_is =
            ap (λ (o : Option Datagram). ends_at o found e.maps w) there
            ∙ ap (λ (o : Option Taken). ends_if o found e.maps d w) (wanted_is ∙ e.completes)

        -- is that after the restart
        restarted_is : restarts mid ≡ happens step w
        restarted_is = e.is ∙ sym then_is

        ends_merged : (b : Bool) (t : Taken) → (ends b e.file e.maps d w).taken ≡ w.taken ++ t ∷ [] →
            IsMerged t.file w.server.maps (ends b e.file e.maps d w).server.maps
        ends_merged true t is = subst (λ (x : Taken). IsMerged x.file w.server.maps e.maps) (one_last w.taken e.file t is) e.merged
        ends_merged false t is = not_more w.taken t is

        merged_by : HasMerged step w
        merged_by =
            subst (λ (x : World). (t : Taken) → x.taken ≡ w.taken ++ t ∷ [] → IsMerged t.file w.server.maps x.server.maps) (sym then_is) (ends_merged found)

        own_ends : HasOwnPorts w → HasOwnPorts (ends found e.file e.maps d w)
        own_ends own = record { operations = own.operations; openings = own.openings; strangers = own.strangers }

        due : WouldChange index w
        due = λ t wants.
            let is : completed d w ≡ Some t = sym (ap (λ (o : Option Datagram). wanted_by o w) there ∙ wanted_is) ∙ wants in
            let same : e.file ≡ t = one_some (completed d w) e.file t e.completes is in
            (e.maps, subst (λ (x : Taken). IsMerged x.file w.server.maps e.maps) same e.merged, e.changes)

        -- the keeper has what the start finds
        adds : (log : List Keeping) → before ≡ Some log →
            (last : List Keeping) × (after ≡ Some last) × KeepsMaps w.server.maps mid.server.maps (Some log) (Some last)
        adds log is =
            let keeps : KeepsMaps w.server.maps mid.server.maps (Some log) after =
            subst (λ (o : Option (List Keeping)). KeepsMaps w.server.maps mid.server.maps o after) is e.keeps in
            let now = reported_after all None w.server.maps mid.server.maps log after keeps in
            (now.0, now.1, subst (KeepsMaps w.server.maps mid.server.maps (Some log)) now.1 keeps)

        makes : Makes event before after w (restarts mid)
        makes =
            record {
              grant = all;
              maps = e.maps;
              is = restarted_is;
              may = record { datagram = d; is = there; file = e.file; completes = wanted_is ∙ e.completes };
              own = λ own. subst HasOwnPorts (sym e.is) (own_ends own);
              merged = merged_by;
              due = due;
              keeps = λ log is. let now = adds log is in (now.0, now.1, ((now.0, now.2, λ rules. refl), now.2));
            }

        -- the result of the calls if the server has loaded
        pub ends-comes : (now : Option (List Keeping)) → now ≡ after → v.home ≡ mid.home → v.server.request ≡ mid.server.request →
            ((log : List Keeping) → after ≡ Some log → LoadsAs log mid.server.maps → v ≡ restarts mid) →
            Comes (Ok tt) event before now w v
        ends-comes now now_is home request loads = (
          (home ∙ e.home, request ∙ e.request),
          λ ready.
              let has = ready refl in
              let last = adds has.log has.reports in
              let best : AreBest mid.taken mid.server.maps =
              subst (λ (x : World). AreBest x.taken x.server.maps) (sym restarted_is) (step-best w step merged_by has.best) in
              let kept =
              step-loads_as all None w.server.maps mid.server.maps has.log last.0 last.2 (inl refl) (own-ruleset mid.taken mid.server.maps best)
              (best-collected Lynx _ mid.server.maps.lynx best.lynx) (best-collected Ms _ mid.server.maps.ms best.ms) has.loads in
              let same = loads last.0 last.1 kept in
              subst (λ (x : World). Makes event before now w x) (sym same)
              (subst (λ (o : Option (List Keeping)). Makes event before o w (restarts mid)) (sym now_is) makes),
        )

        -- the result if it has not
        pub ends-unloaded : (now : Option (List Keeping)) → now ≡ after → Comes (Err fault.NotLoaded) event before now w v
        ends-unloaded now now_is =
            (restarts mid, λ ready. subst (λ (o : Option (List Keeping)). Makes event before o w (restarts mid)) (sym now_is) makes)

      -- the result if the record of the step fails
      pub ends-fails : (f : EventFault) (mid : World) → EndsBy (Err f) found d before after w mid → Comes (Err f) event before after w v
      ends-fails fault.Bad mid by = (
        by.0,
        λ may due. away_none ⊥
            (λ file is. by.1 file (sym wanted_is ∙ is) (due file (ap (λ (o : Option Datagram). wanted_by o w) there ∙ is))) may,
      )
      ends-fails fault.Reused mid by = absurd by
      ends-fails fault.NotKept mid by =
          (index, ap (unknown_keep index) by.0, (by.1.0, stepped_makes w v d index 0 there ours other before after by.1.0 by.1.1))
      ends-fails fault.NotLoaded mid by = absurd by
      ends-fails fault.Memory mid (inl same) = (no_restart event refl, inl same)
      ends-fails fault.Memory mid (inr ended) = (no_restart event refl, inr (restarts ended.0, λ ready. makes ended.0 ended.1))

-- What a delivery does, given the result of its call: it happens, may not happen, or reuses a port.
use Rattle.std.specs.Prelude.{◌≡◌, ◌≢◌, ℕ, Bool, true, false, ◌==◌, List, [], ◌∷◌, ◌++◌, length, slice_get, Option, None, Some, is_some, Result, Ok, Err}
use Rattle.std.proofs.Common.{refl, ap, sym, ◌∙◌, subst, inl, inr}
use Rattle.std.proofs.lemmas.Bool.{eq-eqb, ne_eqb, true≢false}
use Rattle.tftp_packet.specs.declared.endpoint.Endpoint.{Endpoint}
use Rattle.archive_client.specs.Client.{Client}
use Rattle.archive_table.specs.Table.{Maps, Taken, Grant, all, no_memory, unkept, memory_verdict, IsMerged, Merges, request_verdict, table_request, table_datagram, table_timeout, transfer_at, empty_maps}
use Rattle.archive_table.specs.Table as table
use Rattle.tftp_ends.specs.Ends.{Verdict, granted}
use Rattle.tws_file.specs.declared.«ruleset».Ruleset.{Ruleset}
use Rattle.archive_table.specs.Keeper.{Keeping, KeepsOne, KeepsMaps, FailsKeep, FailsKeepOf, RefusesKeep, StepKeeps}
use Rattle.archive_world.specs.declared.event_fault.EventFault.{EventFault}
use Rattle.archive_world.specs.declared.event_fault.EventFault.TheVariants as fault
use Rattle.archive_model.specs.World.{deliver, World, Datagram, Opening, client_at, client_receives, opened_with, taken_with, asked_of, after_request, event_happens, HasMerged, IsFree, MayDeliver, wanted_at, wanted_of, wanted_by}
use Rattle.archive_theorem.specs.Headline.{OwnPorts, HasOwnPorts}
use Rattle.archive_theorem.specs.Reuse.{was_opened}
use Rattle.archive_theorem.specs.Traces.{server_comes, comes}
use Rattle.archive_world.specs.Inside.{ReceivesAtPort}
use Rattle.tws_best.specs.Best.{Collected}
use Rattle.archive_world.specs.Replays.{KeepsOnly, Changes, IsDue, Makes, Reuses}
use Rattle.archive_world.specs.Exits.{Comes}
use Rattle.archive_theorem.proofs.Headline_Remains.{Remain, client_remains, request_remains}
use Rattle.archive_theorem.proofs.Port_Tests.{opening-keeps_own}
use Rattle.archive_model.proofs.Endpoints.{endpoint_is}
use Rattle.archive_theorem.proofs.Headline_Total.{not_more, one_last}
use Rattle.archive_world.proofs.Exiting.{no_restart, remain-merged, stays-there}
use Rattle.archive_theorem.proofs.Trace_Runs.{delivers_fits}

-- ---- a keeper that had a log still has it

some_none : (before : List Keeping) → Some before ≡ None → ⊥
some_none before e = cc

-- a keeper with a log still has one after a step that keeps a collection
none_one : (old new : Collected) (before : List Keeping) → KeepsOne old new (Some before) None → ⊥
none_one old new before (inl stays) = some_none before stays.1
none_one old new before (inr changes) = some_none before changes.1

-- after one that keeps either
none_maps : (old new : Maps) (before : List Keeping) → KeepsMaps old new (Some before) None → ⊥
none_maps old new before (inl lynx) = none_one old.lynx new.lynx before lynx.1
none_maps old new before (inr ms) = none_one old.ms new.ms before ms.1

-- a keeper with a log still has one after a keep that failed
none_fails : (rules : Ruleset) (new : Collected) (before : List Keeping) → FailsKeep rules new (Some before) None → ⊥
none_fails rules new before (inl none) = some_none before none
none_fails rules new before (inr failed) = some_none before failed

-- or after one of either collection
none_fails_of : (old new : Maps) (before : List Keeping) → FailsKeepOf old new (Some before) None → ⊥
none_fails_of old new before (inl lynx) = none_fails new.lynx.ruleset new.lynx before lynx.2
none_fails_of old new before (inr ms) = none_fails new.ms.ruleset new.ms before ms.2

-- after any step
none_reports : (grant : Grant) (wanted : Option Taken) (old new : Maps) (before : List Keeping) → StepKeeps grant wanted old new (Some before) None → ⊥
none_reports all wanted old new before keeps = none_maps old new before keeps
none_reports no_memory wanted old new before keeps = some_none before keeps
none_reports unkept wanted old new before keeps = none_fails_of old keeps.0 before keeps.2

-- so there is a log after the step
pub reported_after : (grant : Grant) (wanted : Option Taken) (old new : Maps) (before : List Keeping) (now : Option (List Keeping)) →
    StepKeeps grant wanted old new (Some before) now → (after : List Keeping) × (now ≡ Some after)
reported_after grant wanted old new before None keeps = absurd (none_reports grant wanted old new before keeps)
reported_after grant wanted old new before (Some after) keeps = (after, refl)

-- ---- a keep that was refused

-- a keep that failed was of a collection that changed
pub changed_of : (old new : Maps) (before after : Option (List Keeping)) → FailsKeepOf old new before after → new ≢ old
changed_of old new before after (inl lynx) = λ is. lynx.1 (ap (λ (m : Maps). m.lynx) is)
changed_of old new before after (inr ms) = λ is. ms.1 (ap (λ (m : Maps). m.ms) is)

-- a keep is refused only if the file would have changed a collection
kept_due : (grant : Grant) (wanted : Option Taken) (t : Taken) (old new : Maps) (before after : Option (List Keeping)) → grant ≡ unkept →
    wanted ≡ Some t → StepKeeps grant wanted old new before after → Changes t old
kept_due grant wanted t old new before after is wants keeps =
    let refused : RefusesKeep wanted old before after = subst (λ (g : Grant). StepKeeps g wanted old new before after) is keeps in (
      refused.0,
      subst (λ (o : Option Taken). Merges o old refused.0) wants refused.1,
      changed_of old refused.0 before after refused.2,
    )

pub none_some : (t : Taken) → None ≡ Some t → ⊥
none_some t is = true≢false (sym (ap (λ (o : Option Taken). is_some o) is))

-- ---- a file that was taken

-- the file that a step takes is the one that it merges
taken_merged : (ts : List Taken) (t : Taken) (taken : Option Taken) (old new : Maps) → Merges taken old new →
    taken_with taken ts ≡ ts ++ t ∷ [] → IsMerged t.file old new
taken_merged ts t None old new merges e = not_more ts t e
taken_merged ts t (Some x) old new merges e = subst (λ (y : Taken). IsMerged y.file old new) (one_last ts x t e) merges

-- ---- what a request was granted, judged by whether a transfer was opened

-- the grant of a request, by whether a transfer was opened
abbrev request_grant : (opened : Bool) → Grant
request_grant true = all
request_grant false = no_memory

-- its verdict on memory is that
request_memory : (opened : Bool) → memory_verdict (request_grant opened) ≡ request_verdict opened
request_memory true = refl
request_memory false = refl

-- ---- a delivery

module _ (w v : World) (d : Datagram) (index spare : ℕ) (there : slice_get w.net index ≡ Some d) where
  -- it may be delivered if the spare port is free
  abbrev may_deliver : (d.target ≡ record { host = w.home.host; port = w.server.request } → IsFree spare w) → MayDeliver index spare w
  may_deliver free = record { datagram = d; is = there; spare_is = free }

  -- the world after the delivery, by the host at which the datagram arrives
  delivered : (grant : Grant) (maps : Maps) → MayDeliver index spare w → (ours : Bool) → (d.target.host == w.home.host) ≡ ours →
      event_happens (deliver index spare) grant maps w ≡ comes ours spare grant maps d w
  delivered grant maps may ours is =
      delivers_fits w d index spare grant maps there may ∙ ap (λ (b : Bool). comes b spare grant maps d w) is

  -- the file that the delivery takes if everything is granted
  wanted_here : (ours : Bool) → (d.target.host == w.home.host) ≡ ours → wanted_by (slice_get w.net index) w ≡ wanted_of ours d w
  wanted_here ours is =
      ap (λ (o : Option Datagram). wanted_by o w) there ∙ ap (λ (b : Bool). wanted_of b d w) is

  -- ---- to a client

  module _ (away : d.target.host ≢ w.home.host) where
    -- it may be delivered
    away_may : MayDeliver index spare w
    away_may = may_deliver (λ to. absurd (away (ap (λ (e : Endpoint). e.host) to)))

    -- no keep is asked for
    away_due : (grant : Grant) → IsDue (deliver index spare) grant w
    away_due grant = λ is t wants.
        absurd (none_some t (sym (wanted_here false (ne_eqb d.target.host w.home.host away)) ∙ wants))

    -- the delivery is what the client does
    received_as : (grant : Grant) → event_happens (deliver index spare) grant empty_maps w ≡ client_receives (client_at d.target w) grant d w
    received_as grant = delivered grant empty_maps away_may false (ne_eqb d.target.host w.home.host away)

    -- it reuses no port
    received_own : (found : Option Client) (grant : Grant) → HasOwnPorts w → HasOwnPorts (client_receives found grant d w)
    received_own None grant own = own
    received_own (Some c) grant own =
        record { operations = own.operations; openings = own.openings; strangers = own.strangers }

    -- what it does to the world and the keeper
    received_makes : (grant : Grant) → v ≡ client_receives (client_at d.target w) grant d w → (keeper : Option (List Keeping)) →
        Makes (deliver index spare) keeper keeper w v
    received_makes grant is keeper =
        let remain = client_remains w (client_at d.target w) grant d in
        record {
          grant = grant;
          maps = empty_maps;
          is = is ∙ sym (received_as grant);
          may = away_may;
          own = λ own. subst HasOwnPorts (sym is) (received_own (client_at d.target w) grant own);
          merged = remain-merged w (event_happens (deliver index spare) grant empty_maps w) (subst (Remain w) (sym (received_as grant)) remain);
          due = away_due grant;
          keeps = λ before reports. (before, reports, (inl (ap (λ (x : World). x.server.maps) is ∙ remain.1, refl), tt));
        }

    -- the result of the call for a datagram to another host
    pub receive-comes : (reported : Option (List Keeping)) → (grant : Grant) × (v ≡ client_receives (client_at d.target w) grant d w) →
        Comes (Ok tt) (deliver index spare) reported reported w v
    receive-comes reported received = (
      stays-there w v (deliver index spare) received.0 empty_maps (received.1 ∙ sym (received_as received.0)),
      λ ready. received_makes received.0 received.1 reported,
    )

  -- ---- to the server

  module _ (ours : d.target.host ≡ w.home.host) where
    -- the delivery is what the server does
    came_as : (grant : Grant) (maps : Maps) → MayDeliver index spare w → (request : Bool) → (d.target.port == w.server.request) ≡ request →
        event_happens (deliver index spare) grant maps w ≡ server_comes request spare grant maps d w
    came_as grant maps may request is =
        delivered grant maps may true (eq-eqb d.target.host w.home.host ours)
        ∙ ap (λ (b : Bool). server_comes b spare grant maps d w) is

    -- ---- to its request port

    module _ (at : d.target.port ≡ w.server.request) where
      -- if the spare port is free it may be delivered
      free_may : IsFree spare w → MayDeliver index spare w
      free_may free = may_deliver (λ to. free)

      -- and only then
      may_free : MayDeliver index spare w → IsFree spare w
      may_free may =
          let both : Some may.datagram ≡ Some d = sym may.is ∙ there in
          let same : may.datagram ≡ d = cc in
          may.spare_is (ap (λ (x : Datagram). x.target) same ∙ endpoint_is d.target w.home.host w.server.request ours at)

      -- the server's answer to the request
      abbrev answered : Verdict → table.TableAnswer
      answered verdict = table_request verdict spare d.source d.bytes w.server

      -- the world after it
      abbrev asked : Verdict → World
      asked verdict = after_request d.source spare (asked_of d.bytes) (answered verdict) w

      -- the transfer that it opens
      abbrev opening : Opening
      opening = record { peer = d.source; port = spare; asked = asked_of d.bytes; taken = length w.taken }

      -- the delivery leads to that world
      asked_as : (grant : Grant) → IsFree spare w → event_happens (deliver index spare) grant empty_maps w ≡ asked (memory_verdict grant)
      asked_as grant free = came_as grant empty_maps (free_may free) true (eq-eqb d.target.port w.server.request at)

      -- no keep is asked for
      asked_due : (grant : Grant) → IsDue (deliver index spare) grant w
      asked_due grant = λ is t wants.
          let none =
          wanted_here true (eq-eqb d.target.host w.home.host ours) ∙ ap (λ (b : Bool). wanted_at b d w)
          (eq-eqb d.target.port w.server.request at) in
          absurd (none_some t (sym none ∙ wants))

      -- no file is taken
      asked_merged : (grant : Grant) → IsFree spare w → HasMerged (record { event = deliver index spare; grant = grant; maps = empty_maps }) w
      asked_merged grant free =
          remain-merged w (event_happens (deliver index spare) grant empty_maps w)
          (subst (Remain w) (sym (asked_as grant free)) (request_remains w false None spare grant d))

      -- an opening at a port that is new for the peer reuses none
      own_opened : (opened : Bool) → (opened ≡ true → was_opened d.source spare w.opened ≡ false) → HasOwnPorts w →
          OwnPorts w.begun (opened_with opened opening w.opened) w.strays
      own_opened true none own = (opening-keeps_own w own opening).1 (none refl)
      own_opened false none own = own

      -- so no port is reused
      asked_own : (opened : Bool) → opened ≡ (answered (request_verdict opened)).step.opened →
          (opened ≡ true → was_opened d.source spare w.opened ≡ false) → HasOwnPorts w → HasOwnPorts (asked (request_verdict opened))
      asked_own opened reported none own =
          let ports : OwnPorts w.begun (opened_with (answered (request_verdict opened)).step.opened opening w.opened) w.strays =
          subst (λ (b : Bool). OwnPorts w.begun (opened_with b opening w.opened) w.strays) reported (own_opened opened none own) in
          record { operations = ports.operations; openings = ports.openings; strangers = ports.strangers }

      asked_is : (opened : Bool) → v ≡ asked (request_verdict opened) → IsFree spare w →
          v ≡ event_happens (deliver index spare) (request_grant opened) empty_maps w
      asked_is opened is free = is ∙ ap asked (sym (request_memory opened)) ∙ sym (asked_as (request_grant opened) free)

      -- what it does to the world and the keeper
      asked_makes : (opened : Bool) → v ≡ asked (request_verdict opened) → IsFree spare w →
          opened ≡ (answered (request_verdict opened)).step.opened → (opened ≡ true → was_opened d.source spare w.opened ≡ false) →
          (keeper : Option (List Keeping)) → Makes (deliver index spare) keeper keeper w v
      asked_makes opened is free reported none keeper =
          let grant = request_grant opened in
          record {
            grant = grant;
            maps = empty_maps;
            is = asked_is opened is free;
            may = free_may free;
            own = λ own. subst HasOwnPorts (sym is) (asked_own opened reported none own);
            merged = asked_merged grant free;
            due = asked_due grant;
            keeps = λ before reports. (
              before,
              reports,
              (
                inl
                    (ap (λ (x : World). x.server.maps) (is ∙ ap asked (sym (request_memory opened))) ∙ (request_remains w false None spare grant d).1, refl),
                tt,
              ),
            );
          }

      -- an opening at a port that was opened for the peer before reuses it
      reused_by : HasOwnPorts w → IsFree spare w → was_opened d.source spare w.opened ≡ true → (answered granted).step.opened ≡ true →
          HasOwnPorts (event_happens (deliver index spare) all empty_maps w) → ⊥
      reused_by own free used opens later =
          let ports : HasOwnPorts (asked granted) = subst HasOwnPorts (asked_as all free) later in
          let also : OwnPorts w.begun (opened_with (answered granted).step.opened opening w.opened) w.strays =
          record { operations = ports.operations; openings = ports.openings; strangers = ports.strangers } in
          let new : OwnPorts w.begun (w.opened ++ opening ∷ []) w.strays =
          subst (λ (b : Bool). OwnPorts w.begun (opened_with b opening w.opened) w.strays) opens also in
          let none : was_opened d.source spare w.opened ≡ false = (opening-keeps_own w own opening).0 new in
          true≢false (sym used ∙ none)

      -- so the event would reuse a port
      asked_reuses : IsFree spare w → was_opened d.source spare w.opened ≡ true → (answered granted).step.opened ≡ true → HasOwnPorts w →
          Reuses (deliver index spare) w
      asked_reuses free used opens own =
          record {
            may = free_may free;
            grant = all;
            maps = empty_maps;
            merged = asked_merged all free;
            reused = reused_by own free used opens;
          }

      -- the result of the call for a request, if it succeeds
      pub ask-comes : (r : Result Bool EventFault) (opened : Bool) (reported : Option (List Keeping)) → v ≡ asked (request_verdict opened) →
          IsFree spare w → opened ≡ (answered (request_verdict opened)).step.opened → r ≡ Ok opened →
          (r ≡ Ok true → was_opened d.source spare w.opened ≡ false) → Comes (Ok tt) (deliver index spare) reported reported w v
      ask-comes r opened reported is free opens ok none = (
        stays-there w v (deliver index spare) (request_grant opened) empty_maps (asked_is opened is free),
        λ ready. asked_makes opened is free opens (λ e. none (ok ∙ ap (λ (b : Bool). Ok b) e)) reported,
      )

      -- the result of the call for a request, if it fails
      pub ask-fails : (r : Result Bool EventFault) (f : EventFault) (reported : Option (List Keeping)) → r ≡ Err f →
          (r ≡ Err fault.Bad → IsFree spare w → ⊥) → (r ≡ Err fault.Reused → IsFree spare w) →
          (r ≡ Err fault.Reused → was_opened d.source spare w.opened ≡ true) → r ≢ Err fault.NotKept → r ≢ Err fault.NotLoaded →
          (r ≡ Err fault.Reused → (answered granted).step.opened ≡ true) → Comes (Err f) (deliver index spare) reported reported w v
      ask-fails r fault.Bad reported is bad reused used keeps loads opens = (refl, λ may due. bad is (may_free may))
      ask-fails r fault.Reused reported is bad reused used keeps loads opens =
          (refl, λ own. asked_reuses (reused is) (used is) (opens is) own)
      ask-fails r fault.NotKept reported is bad reused used keeps loads opens = absurd (keeps is)
      ask-fails r fault.NotLoaded reported is bad reused used keeps loads opens = absurd (loads is)
      ask-fails r fault.Memory reported is bad reused used keeps loads opens = (no_restart (deliver index spare) refl, inl refl)

    -- ---- to another port

    module _ (other : d.target.port ≢ w.server.request) (old new : Option (List Keeping)) (u : World) (h : ReceivesAtPort d old new w u) where
      -- it may be delivered
      other_may : MayDeliver index spare w
      other_may = may_deliver (λ to. absurd (other (ap (λ (e : Endpoint). e.port) to)))

      -- the world after the server's step
      abbrev stepped : World
      stepped = event_happens (deliver index spare) h.grant u.server.maps w

      -- it is the one that the call has left
      stepped_is : u ≡ stepped
      stepped_is = h.is ∙ sym (came_as h.grant u.server.maps other_may false (ne_eqb d.target.port w.server.request other))

      -- no port is reused
      stepped_own : HasOwnPorts w → HasOwnPorts u
      stepped_own own =
          subst HasOwnPorts (sym h.is) (record { operations = own.operations; openings = own.openings; strangers = own.strangers })

      -- the file that is taken makes the collections
      stepped_merged : HasMerged (record { event = deliver index spare; grant = h.grant; maps = u.server.maps }) w
      stepped_merged =
          subst (λ (x : World). (t : Taken) → x.taken ≡ w.taken ++ t ∷ [] → IsMerged t.file w.server.maps x.server.maps) stepped_is
          (λ t e. taken_merged w.taken t _ w.server.maps u.server.maps h.merges (sym (ap (λ (x : World). x.taken) h.is) ∙ e))

      -- the file that is taken if everything is granted
      abbrev wanted : Option Taken
      wanted = (table_datagram all w.server.maps d.target.port d.source d.bytes w.server).step.taken

      -- it is that of the delivery
      stepped_wanted : wanted_by (slice_get w.net index) w ≡ wanted
      stepped_wanted =
          wanted_here true (eq-eqb d.target.host w.home.host ours)
          ∙ ap (λ (b : Bool). wanted_at b d w) (ne_eqb d.target.port w.server.request other)

      -- what the keeper has after the step
      stepped_keeps : (before after : List Keeping) → old ≡ Some before → new ≡ Some after →
          StepKeeps h.grant (wanted_by (slice_get w.net index) w) w.server.maps u.server.maps (Some before) (Some after)
      stepped_keeps before after old_is new_is =
          subst (λ (o : Option (List Keeping)). StepKeeps h.grant (wanted_by (slice_get w.net index) w) w.server.maps u.server.maps o (Some after)) old_is
          (subst (λ (o : Option (List Keeping)). StepKeeps h.grant (wanted_by (slice_get w.net index) w) w.server.maps u.server.maps old o) new_is
          (subst (λ (o : Option Taken). StepKeeps h.grant o w.server.maps u.server.maps old new) (sym stepped_wanted) h.keeps))

      -- the same for a keeper that had a log
      now_keeps : (before : List Keeping) → old ≡ Some before →
          (after : List Keeping) × (new ≡ Some after) × KeepsOnly (deliver index spare) h.grant w u before after
      now_keeps before is =
          let now =
          reported_after h.grant wanted w.server.maps u.server.maps before new
          (subst (λ (o : Option (List Keeping)). StepKeeps h.grant wanted w.server.maps u.server.maps o new) is h.keeps) in
          (now.0, now.1, (inr (stepped_keeps before now.0 is now.1), tt))

      -- a keep is refused only if the file would have changed a collection
      stepped_due : IsDue (deliver index spare) h.grant w
      stepped_due = λ is t wants.
          kept_due h.grant wanted t w.server.maps u.server.maps old new is (sym stepped_wanted ∙ wants) h.keeps

      -- what it does to the world and the keeper
      pub stepped_makes : Makes (deliver index spare) old new w u
      stepped_makes =
          record {
            grant = h.grant;
            maps = u.server.maps;
            is = stepped_is;
            may = other_may;
            own = stepped_own;
            merged = stepped_merged;
            due = stepped_due;
            keeps = now_keeps;
          }

      -- the result of the call for a datagram at another port, if memory runs out
      pub transfer-fails : Comes (Err fault.Memory) (deliver index spare) old new w v
      transfer-fails = (no_restart (deliver index spare) refl, inr (u, λ ready. stepped_makes))

      -- the result of the call for a datagram at another port, if it succeeds
      pub transfer-comes : v ≡ u → Comes (Ok tt) (deliver index spare) old new w v
      transfer-comes is = (
        stays-there w v (deliver index spare) h.grant u.server.maps (is ∙ stepped_is),
        λ ready. subst (λ (x : World). Makes (deliver index spare) old new w x) (sym is) stepped_makes,
      )

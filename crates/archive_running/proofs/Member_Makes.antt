-- Each reception, time-out, restart or begin of an archive is one member of a trace, and then the world has what the archive
-- has.
use Rattle.std.proofs.Common.{◌≡◌, ◌≢◌, ◌⊎◌, ℕ, zero, suc, Bool, true, false, ◌==◌, ◌&&◌, List, [], ◌∷◌, ◌++◌, length, slice_get, Option, None, Some, is_some, refl, ap, sym, ◌∙◌, subst, inl, inr, true≢false}
use Rattle.std.specs.Str.{bytes_eq}
use Rattle.std.specs.Map.{lookup}
use Rattle.std.proofs.lemmas.Bool.{eq-eqb, ne_eqb}
use Rattle.std.proofs.lemmas.Slice.Eq.{bytes_eq-Decides}
use Rattle.tftp_packet.specs.declared.endpoint.Endpoint.{Endpoint}
use Rattle.tftp_packet.specs.Decode.{decode_bytes}
use Rattle.tftp_ends.specs.Ends.{Verdict, granted, refused}
use Rattle.archive_table.specs.Table.{Table, Maps, Grant, Taken, Transfer, TableAnswer, Merges, IsMerged, all, unkept, memory_verdict, is_same, transfer_at, datagram_at, table_request, table_datagram, table_timeout, empty_maps}
use Rattle.archive_table.specs.Keeper.{Keeping}
use Rattle.archive_client.specs.Client.{Operation, Client, client_datagram, client_timeout, is_too_long}
use Rattle.archive_client.specs.Client as client
use Rattle.archive_model.specs.World.{Datagram, World, has_begun, asked_of, taken_with, after_request, after_transfer, after_client, client_receives, client_waits, begins, restarts, strays_in, wanted_at, wanted_of, ends, ends_if, unknown_keep, AllMayHappen, MayDeliver, MayEnd, IsFree}
use Rattle.archive_theorem.specs.Traces.{Member, server_waits_long, client_waits_long, starts, loads, is_same_datagram, position_after, position_of, named_in, server_comes, comes, after_deed, at_place, delivery, steps_with, member_steps, trace_from, DeedMerged}
use Rattle.archive_model.proofs.Places.{Has, at-last}
use Rattle.archive_model.proofs.Endpoints.{same_endpoint}
use Rattle.archive_theorem.proofs.Headline_Remains.{timeout_leaves, decoded_leaves}
use Rattle.archive_theorem.proofs.Headline_Total.{not_more, one_last}
use Rattle.archive_theorem.proofs.Trace_Runs.{found_at}
use Rattle.archive_running.specs.Members.{arrival, grant_for, reception, does, end_member}
use Rattle.archive_running.specs.Archive.{Archive, IsStrangers, after_restart}
use Rattle.archive_running.proofs.Member_Fits.{AllFit}
use Rattle.archive_running.proofs.Server_Ports.{request-apart, datagram-apart, timeout-apart}
use Rattle.archive_running.proofs.Server_Ends.{Completes, refused_at}
use Rattle.archive_running.proofs.Client_Ends.{datagram-ends, timeout-ends}
use Rattle.archive_running.proofs.World_Shows.{Shows, outs, with_answer, with_client, with_end, shows-named, shows-ended, shows-served, shows-restart, shows-client, shows-begin, with_begun}
use Rattle.archive_model.proofs.Entries.{strays_fits}

-- these members may happen, and then the world has what this archive has
pub record Makes (b : Archive) (ms : List Member) (w : World) : Type 0 where
  pub fit : AllFit ms w
  pub shows : Shows b (trace_from ms w)

-- ---- what was sent before has a place

same_datagram : (d : Datagram) → is_same_datagram d d ≡ true
same_datagram d =
    ap (λ (b : Bool). b && (is_same d.target d.target && bytes_eq d.bytes d.bytes)) (same_endpoint d.source)
    ∙ ap (λ (b : Bool). b && bytes_eq d.bytes d.bytes) (same_endpoint d.target)
    ∙ (bytes_eq-Decides d.bytes d.bytes).1 refl

-- a datagram that was sent is found among those that were
placed : (d : Datagram) (net : List Datagram) (i : ℕ) → slice_get net i ≡ Some d → is_some (position_of d net) ≡ true
placed d [] i e = absurd cc
placed d (x ∷ net) zero e =
    let same : x ≡ d = cc in
    ap (λ (b : Bool). is_some (position_after b (position_of d net))) (ap (λ y. is_same_datagram y d) same ∙ same_datagram d)
placed d (x ∷ net) (suc i) e = by (is_same_datagram x d) (position_of d net) (placed d net i e)
  where
    by : (first : Bool) (later : Option ℕ) → is_some later ≡ true → is_some (position_after first later) ≡ true
    by true later h = refl
    by false (Some n) h = refl
    by false None h = h

-- the datagram was sent before, or is a stranger's
abbrev pub IsBrought : Datagram → Archive → Type 0
IsBrought d a = Has a.net d ⊎ IsStrangers d a

module _ (a : Archive) (w : World) (h : Shows a w) where
  -- the server of both is on one host
  at_home : {A : Type 0} (f : Bool → A) → f (a.home.host == w.home.host) ≡ f true
  at_home f = ap f (eq-eqb a.home.host w.home.host (ap (λ (e : Endpoint). e.host) (sym h.home)))

  -- what is on another host than the archive's server is on another than the world's
  elsewhere : (e : Endpoint) → e.host ≢ a.home.host → e.host ≢ w.home.host
  elsewhere e away ours = away (ours ∙ ap (λ (f : Endpoint). f.host) h.home)

  -- a datagram that the network brings, and that nobody has sent, is a stranger's
  strangers : (d : Datagram) → position_of d w.net ≡ None → IsBrought d a → IsStrangers d a
  strangers d none (inl old) =
      let has = h.net d old in
      absurd (true≢false (sym (placed d w.net has.position has.is) ∙ ap is_some none))
  strangers d none (inr stranger) = stranger

  -- what the network brings may be delivered, or enter the network and then be delivered
  may_handle : (d : Datagram) (spare : ℕ) (grant : Grant) (maps : Maps) → IsBrought d a →
      (d.target ≡ record { host = w.home.host; port = w.server.request } → IsFree spare w) → (position : Option ℕ) →
      position_of d w.net ≡ position → AllMayHappen (steps_with grant maps (delivery position d spare w.net)) w
  may_handle d spare grant maps brought free (Some n) is =
      (record { datagram = d; is = found_at d w.net n is; spare_is = free }, tt)
  may_handle d spare grant maps brought free None is =
      let stranger = strangers d is brought in
      let unbegun : has_begun d.source w.begun ≡ false = h.known d.source ∙ ap is_some stranger.unbegun in
      let away = elsewhere d.source stranger.away in
      let entered = strays_fits w d away unbegun in
      let then : MayDeliver (length w.net) spare (strays_in d w) = record {
        datagram = d;
        is = at-last w.net d;
        spare_is = λ to. record { other = (free to).other; free = (free to).free };
      } in
      ((away, unbegun), (subst (λ (v : World). MayDeliver (length w.net) spare v) (sym entered) then, tt))

  -- ---- the server

  -- a stranger's datagram that enters the network changes no file
  named_taken : (position : Option ℕ) (d : Datagram) → (named_in position d w).taken ≡ w.taken
  named_taken (Some n) d = refl
  named_taken None d = refl

  -- the file that a step takes is the one that it merges
  merged_by : (took : Option Taken) (ts : List Taken) (old new : Maps) → Merges took old new → (t : Taken) →
      taken_with took ts ≡ ts ++ t ∷ [] → IsMerged t.file old new
  merged_by None ts old new merges t e = not_more ts t e
  merged_by (Some u) ts old new merges t e =
      let same : u ≡ t = one_last ts u t e in
      subst (λ (x : Taken). IsMerged x.file old new) same merges

  -- for a world that equals the one after the deed
  deed_merged : (m : Member) (v : World) → after_deed m.deed m.grant m.maps w ≡ v → (took : Option Taken) →
      v.taken ≡ taken_with took w.taken → Merges took a.server.maps v.server.maps → DeedMerged m w
  deed_merged m v is took taken merges t e =
      let made = merged_by took w.taken a.server.maps v.server.maps merges t (sym taken ∙ ap (λ (x : World). x.taken) (sym is) ∙ e) in
      let later = subst (λ (x : World). IsMerged t.file a.server.maps x.server.maps) (sym is) made in
      subst (λ (s : Table). IsMerged t.file s.maps (after_deed m.deed m.grant m.maps w).server.maps) (sym h.server) later

  -- one deed that may happen, after which the world has what this archive has
  one_made : (b : Archive) (m : Member) (v : World) → after_deed m.deed m.grant m.maps w ≡ v → AllMayHappen (member_steps m w) w →
      DeedMerged m w → Shows b v → Makes b (m ∷ []) w
  one_made b m v is may merged shows =
      record { fit = (record { may = may; merged = merged }, tt); shows = subst (Shows b) (sym is) shows }

  memory_is : (v : Verdict) → memory_verdict (grant_for v) ≡ v
  memory_is granted = refl
  memory_is refused = refl

  module _ (spare : ℕ) (from : Endpoint) (bytes : List ℕ) (verdict : Verdict) (other : spare ≢ a.server.request)
      (free : transfer_at spare a.server ≡ None) where
    -- the datagram
    abbrev request_d : Datagram
    request_d = arrival a.home.host a.server.request from bytes

    -- the world once the datagram is in the network
    abbrev request_v : World
    request_v = named_in (position_of request_d w.net) request_d w

    -- the server's step
    abbrev request_x : TableAnswer
    request_x = table_request verdict spare from bytes a.server

    -- its delivery is that step, in any world with this server
    request_is : (v : World) → v.server ≡ a.server →
        comes (a.home.host == w.home.host) spare (grant_for verdict) empty_maps request_d v ≡ after_request from spare (asked_of bytes) request_x v
    request_is v same =
        at_home (λ (ours : Bool). comes ours spare (grant_for verdict) empty_maps request_d v)
        ∙ ap (λ (s : Table). server_comes (a.server.request == s.request) spare (grant_for verdict) empty_maps request_d v) same
        ∙ ap (λ (b : Bool). server_comes b spare (grant_for verdict) empty_maps request_d v) (eq-eqb a.server.request a.server.request refl)
        ∙ ap (λ (s : Table). after_request from spare (asked_of bytes) (table_request (memory_verdict (grant_for verdict)) spare from bytes s) v) same
        ∙ ap (λ (m : Verdict). after_request from spare (asked_of bytes) (table_request m spare from bytes a.server) v) (memory_is verdict)

    -- the spare port is free in the world too
    is_free : IsFree spare w
    is_free =
        record {
          other = λ e. other (e ∙ ap (λ (s : Table). s.request) h.server);
          free = ap (λ (s : Table). transfer_at spare s) h.server ∙ free;
        }

    -- a request that the network brings
    pub request-makes : IsBrought request_d a →
        Makes (with_answer request_x.server request_x.step.taken (outs a.home.host request_x.step.out) a)
        (reception request_d spare (grant_for verdict) empty_maps ∷ []) w
    request-makes brought =
        let position = position_of request_d w.net in
        let m = reception request_d spare (grant_for verdict) empty_maps in
        let shown = shows-named position request_d a w h in
        let after = after_request from spare (asked_of bytes) request_x request_v in
        let is : after_deed m.deed m.grant m.maps w ≡ after = request_is request_v shown.server in
        let leaves = decoded_leaves verdict spare from (decode_bytes bytes) a.server in
        let shows = shows-served a request_v shown request_x (request-apart spare from a.server h.apart other verdict bytes) None _ in
        one_made _ m after is (may_handle request_d spare m.grant m.maps brought (λ to. is_free) position refl)
        (deed_merged m after is None (named_taken position request_d) leaves.1)
        (subst (λ (o : Option Taken). Shows (with_answer request_x.server o (outs a.home.host request_x.step.out) a) after) (sym leaves.0) shows)

  module _ (port : ℕ) (from : Endpoint) (bytes : List ℕ) (grant : Grant) (maps : Maps) (other : port ≢ a.server.request) where
    -- the datagram
    abbrev transfer_d : Datagram
    transfer_d = arrival a.home.host port from bytes

    -- the world once the datagram is in the network
    abbrev transfer_v : World
    transfer_v = named_in (position_of transfer_d w.net) transfer_d w

    -- the server's step
    abbrev transfer_x : TableAnswer
    transfer_x = table_datagram grant maps port from bytes a.server

    -- its delivery is that step, in any world with this server
    transfer_is : (v : World) → v.server ≡ a.server →
        comes (a.home.host == w.home.host) 0 grant maps transfer_d v ≡ after_transfer transfer_x v
    transfer_is v same =
        at_home (λ (ours : Bool). comes ours 0 grant maps transfer_d v)
        ∙ ap (λ (s : Table). server_comes (port == s.request) 0 grant maps transfer_d v) same
        ∙ ap (λ (b : Bool). server_comes b 0 grant maps transfer_d v) (ne_eqb port a.server.request other)
        ∙ ap (λ (s : Table). after_transfer (table_datagram grant maps port from bytes s) v) same

    -- it does not arrive at the request port
    not_request : transfer_d.target ≡ record { host = w.home.host; port = w.server.request } → ⊥
    not_request to = other (ap (λ (e : Endpoint). e.port) to ∙ ap (λ (s : Table). s.request) h.server)

    -- the files taken are those before and what the step takes
    taken_more : (position : Option ℕ) → taken_with transfer_x.step.taken (named_in position transfer_d w).taken ≡ taken_with transfer_x.step.taken w.taken
    taken_more position = ap (taken_with transfer_x.step.taken) (named_taken position transfer_d)

    -- a datagram at a transfer's port that the network brings
    pub transfer-makes : IsBrought transfer_d a → Merges transfer_x.step.taken a.server.maps transfer_x.server.maps →
        Makes (with_answer transfer_x.server transfer_x.step.taken (outs a.home.host transfer_x.step.out) a) (reception transfer_d 0 grant maps ∷ []) w
    transfer-makes brought merges =
        let position = position_of transfer_d w.net in
        let m = reception transfer_d 0 grant maps in
        let shown = shows-named position transfer_d a w h in
        let after = after_transfer transfer_x transfer_v in
        let is : after_deed m.deed m.grant m.maps w ≡ after = transfer_is transfer_v shown.server in
        one_made _ m after is (may_handle transfer_d 0 grant maps brought (λ to. absurd (not_request to)) position refl)
        (deed_merged m after is transfer_x.step.taken (taken_more position) merges)
        (shows-served a transfer_v shown transfer_x (datagram-apart port a.server h.apart grant maps from bytes) transfer_x.step.taken _)

  -- a datagram with which the server ends, as it cannot know whether its file was kept
  module _ (port : ℕ) (from : Endpoint) (bytes : List ℕ) (t : Taken) (maps : Maps) (tr : Transfer) (there : transfer_at port a.server ≡ Some tr)
      (other : port ≢ a.server.request) (c : Completes tr port from bytes t) where
    -- the datagram
    abbrev end_d : Datagram
    end_d = arrival a.home.host port from bytes

    -- in a world with this server it completes the file
    end_wants : (v : World) → Shows a v → wanted_of (a.home.host == v.home.host) end_d v ≡ Some t
    end_wants v shown =
        ap (λ (ours : Bool). wanted_of ours end_d v) (eq-eqb a.home.host v.home.host (ap (λ (e : Endpoint). e.host) (sym shown.home)))
        ∙ ap (λ (s : Table). wanted_at (port == s.request) end_d (record v { server = s })) shown.server
        ∙ ap (λ (b : Bool). wanted_at b end_d (record v { server = a.server })) (ne_eqb port a.server.request other)
        ∙ ap (λ (o : Option Transfer). (datagram_at o all a.server.maps port from bytes a.server).step.taken) there
        ∙ c.takes a.server.maps a.server

    -- and the answer is that it is not kept
    end_answers : (v : World) → Shows a v → (table_datagram unkept maps port from bytes v.server).step.out ≡ (refused_at port tr a.server).step.out
    end_answers v shown =
        ap (λ (s : Table). (table_datagram unkept maps port from bytes s).step.out) shown.server
        ∙ ap (λ (o : Option Transfer). (datagram_at o unkept maps port from bytes a.server).step.out) there
        ∙ ap (λ (x : TableAnswer). x.step.out) (c.refuses maps a.server)

    end_may : IsBrought end_d a → (position : Option ℕ) → position_of end_d w.net ≡ position →
        AllMayHappen (steps_with all maps (at_place position end_d (λ index. unknown_keep index true) w.net)) w
    end_may brought (Some n) is =
        (record { datagram = end_d; is = found_at end_d w.net n is; file = t; completes = end_wants w h }, tt)
    end_may brought None is =
        let stranger = strangers end_d is brought in
        let unbegun : has_begun end_d.source w.begun ≡ false = h.known end_d.source ∙ ap is_some stranger.unbegun in
        let away = elsewhere end_d.source stranger.away in
        let entered = strays_fits w end_d away unbegun in
        let then : MayEnd (length w.net) (strays_in end_d w) = record {
          datagram = end_d;
          is = at-last w.net end_d;
          file = t;
          completes = end_wants (strays_in end_d w) (shows-named None end_d a w h);
        } in
        ((away, unbegun), (subst (λ (v : World). MayEnd (length w.net) v) (sym entered) then, tt))

    pub ends-makes : IsBrought end_d a → IsMerged t.file a.server.maps maps →
        Makes (with_end t maps (outs a.home.host (refused_at port tr a.server).step.out) a) (end_member end_d maps ∷ []) w
    ends-makes brought merged =
        let position = position_of end_d w.net in
        let m = end_member end_d maps in
        let v = named_in position end_d w in
        let shown = shows-named position end_d a w h in
        let after = ends true t maps end_d v in
        let is : after_deed m.deed m.grant m.maps w ≡ after = ap (λ (o : Option Taken). ends_if o true maps end_d v) (end_wants v shown) in
        one_made _ m after is (end_may brought position refl)
        (deed_merged m after is (Some t) (ap (λ (ts : List Taken). ts ++ t ∷ []) (named_taken position end_d)) merged)
        (shows-ended a v shown t maps end_d (refused_at port tr a.server).step.out (end_answers v shown))

  -- a time-out of a port of the server
  pub timeout-makes : (port : ℕ) →
      let x = table_timeout port a.server in
      Makes (with_answer x.server None (outs a.home.host x.step.out) a) (does (server_waits_long port) ∷ []) w
  timeout-makes port =
      let x = table_timeout port a.server in
      let m = does (server_waits_long port) in
      let after = after_transfer x w in
      let is : after_deed m.deed m.grant m.maps w ≡ after = ap (λ (s : Table). after_transfer (table_timeout port s) w) h.server in
      let leaves = timeout_leaves (transfer_at port a.server) port a.server in
      let shows = shows-served a w h x (timeout-apart port a.server h.apart) x.step.taken _ in
      one_made _ m after is (tt, tt)
      (deed_merged m after is None (ap (λ (o : Option Taken). taken_with o w.taken) leaves.0) leaves.1)
      (subst (λ (o : Option Taken). Shows (with_answer x.server o (outs a.home.host x.step.out) a) after) leaves.0 shows)

  -- a restart with the same collections
  pub restart-makes : (kept : Option (List Keeping)) → Makes (after_restart a.server.maps kept a) (does loads ∷ []) w
  restart-makes kept =
      one_made _ (does loads) (restarts w) refl (tt, tt)
      (deed_merged (does loads) (restarts w) refl None refl (ap (λ (s : Table). s.maps) h.server)) (shows-restart kept a w h)

  -- ---- a client

  -- an operation begins
  pub begin-makes : (e : Endpoint) (operation : Operation) → e.host ≢ a.home.host → is_too_long operation ≡ false →
      Makes (with_begun a w h e operation) (does (starts e operation) ∷ []) w
  begin-makes e operation away short =
      let m = does (starts e operation) in
      one_made _ m (begins e operation w) refl ((elsewhere e away, short), tt)
      (deed_merged m (begins e operation w) refl None refl (ap (λ (s : Table). s.maps) h.server))
      (shows-begin a w h e operation)

  module _ (e : Endpoint) (c : Client) (away : e.host ≢ a.home.host) (is : lookup (is_same e) a.clients ≡ Some c) where
    module _ (from : Endpoint) (bytes : List ℕ) (verdict : Verdict) where
      -- the datagram
      abbrev client_d : Datagram
      client_d = arrival e.host e.port from bytes

      -- the world once the datagram is in the network
      abbrev client_v : World
      client_v = named_in (position_of client_d w.net) client_d w

      -- the client's step
      abbrev client_x : client.ClientAnswer
      client_x = client_datagram verdict from bytes c

      -- its delivery is that step, in any world with these clients
      client_is : (v : World) → v.clients ≡ a.clients →
          comes (e.host == w.home.host) 0 (grant_for verdict) empty_maps client_d v ≡ after_client e c client_x v
      client_is v same =
          ap (λ (b : Bool). comes b 0 (grant_for verdict) empty_maps client_d v) (ne_eqb e.host w.home.host (elsewhere e away))
          ∙ ap (λ (o : Option Client). client_receives o (grant_for verdict) client_d v) (ap (lookup (is_same e)) same ∙ is)
          ∙ ap (λ (m : Verdict). after_client e c (client_datagram m from bytes c) v) (memory_is verdict)

      -- it does not arrive at the server's request port
      not_server : client_d.target ≡ record { host = w.home.host; port = w.server.request } → ⊥
      not_server to = elsewhere e away (ap (λ (f : Endpoint). f.host) to)

      -- a datagram for a client that the network brings
      pub client-makes : IsBrought client_d a →
          Makes (with_client e client_x.client (outs e.host client_x.out) a) (reception client_d 0 (grant_for verdict) empty_maps ∷ []) w
      client-makes brought =
          let position = position_of client_d w.net in
          let m = reception client_d 0 (grant_for verdict) empty_maps in
          let shown = shows-named position client_d a w h in
          let after = after_client e c client_x client_v in
          let made : after_deed m.deed m.grant m.maps w ≡ after = client_is client_v shown.clients in
          one_made _ m after made (may_handle client_d 0 m.grant m.maps brought (λ to. absurd (not_server to)) position refl)
          (deed_merged m after made None (named_taken position client_d) (ap (λ (s : Table). s.maps) shown.server))
          (shows-client a client_v shown e c is client_x (datagram-ends verdict from bytes c))

    pub waits-makes :
        let x = client_timeout c in
        Makes (with_client e x.client (outs e.host x.out) a) (does (client_waits_long e) ∷ []) w
    waits-makes =
        let x = client_timeout c in
        let m = does (client_waits_long e) in
        let after = after_client e c x w in
        let made : after_deed m.deed m.grant m.maps w ≡ after = ap (λ (o : Option Client). client_waits o e w) (ap (lookup (is_same e)) h.clients ∙ is) in
        let begun : has_begun e w.begun ≡ true = h.known e ∙ ap is_some is in
        one_made _ m after made (begun, tt)
        (deed_merged m after made None refl (ap (λ (s : Table). s.maps) h.server))
        (shows-client a w h e c is x (timeout-ends c))

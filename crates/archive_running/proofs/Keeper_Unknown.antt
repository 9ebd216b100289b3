-- The server does not know whether it has kept a file, and ends: its last turn or round and the next start are members.
use Rattle.std.proofs.Common.{◌≡◌, ◌≢◌, ℕ, Bool, true, false, cond, List, [], ◌∷◌, ◌++◌, fold, Option, None, Some, refl, ap, sym, ◌∙◌, subst, inl, inr}
use Rattle.std.specs.List.{All}
use Rattle.std.specs.Map.{lookup, keys_of}
use Rattle.std.proofs.lemmas.List.Elements.{All-head, All-tail, Contains-append_left, Contains-append_right, Contains-append_cases}
use Rattle.std.proofs.lemmas.Grind.{flat_map-append}
use Rattle.tftp_packet.specs.declared.endpoint.Endpoint.{Endpoint}
use Rattle.archive_table.specs.Table.{Table, Maps, Transfer, Taken, TableAnswer, Grant, all, unkept, at_port, transfer_at, datagram_at, table_datagram, IsMerged}
use Rattle.archive_table.specs.Keeper.{Keeping}
use Rattle.archive_server.specs.declared.mode.Mode.{Mode}
use Rattle.archive_server.specs.declared.next.Next.TheVariants as next
use Rattle.archive_server.specs.declared.timer.Timer.{Timer}
use Rattle.archive_server.specs.Timers.{timers_after, restart}
use Rattle.archive_wire.specs.Wire.{Entry, Receipt, datagram}
use Rattle.archive_server.specs.Turn.{Visited, transfer_received, next_visit, Walk, walk_on, walk_after, IsTurnIn}
use Rattle.archive_model.specs.World.{Datagram, World}
use Rattle.archive_theorem.specs.Traces.{trace_from}
use Rattle.archive_model.proofs.Places.{Has, Has-contains, Has-from_contains}
use Rattle.archive_theorem.proofs.Keyed as keyed
use Rattle.archive_theorem.proofs.Claim_Invariant.{exact_port}
use Rattle.archive_running.specs.Members.{arrival, sent_in, sent_in_calls, late_members, others_of, end_member}
use Rattle.archive_running.specs.Archive.{Archive, after_server, after_end}
use Rattle.archive_running.proofs.World_Shows.{Shows, outs, sent-calls, shows-permuted}
use Rattle.archive_running.proofs.Server_Ends.{without, WalksApart, walks-apart, Completes, completes, refused_at}
use Rattle.archive_running.proofs.Member_Makes.{Makes, IsBrought, ends-makes}
use Rattle.archive_running.proofs.Server_Visits.{Brought, makes-then, brought-first, shows-still, walk_made}

-- ---- the transfer's port

-- a port with a transfer is none at which there is none
found_kept : (P : ℕ → Type 0) (port : ℕ) (es : List (ℕ × Transfer)) → All P (keys_of es) → (tr : Transfer) → lookup (at_port port) es ≡ Some tr → P port
found_kept P port [] fits tr e = absurd cc
found_kept P port (x ∷ es) fits tr e = by (at_port port x.0) refl (found_kept P port es (All-tail P _ _ fits) tr) e
  where
    by : (here : Bool) → at_port port x.0 ≡ here → (lookup (at_port port) es ≡ Some tr → P port) →
        cond here (Some x.1) (lookup (at_port port) es) ≡ Some tr → P port
    by true is later found = subst P (sym (exact_port port x.0 is)) (All-head P _ _ fits)
    by false is later found = later found

-- ---- what is sent, in another order

swapped : (xs ys zs : List Datagram) (d : Datagram) → Has (xs ++ (ys ++ zs)) d → Has ((xs ++ zs) ++ ys) d
swapped xs ys zs d has =
    Has-from_contains ((xs ++ zs) ++ ys) d (elim (Contains-append_cases xs (ys ++ zs) d (Has-contains (xs ++ (ys ++ zs)) d has)) [
      | inl x ↦ Contains-append_left (xs ++ zs) ys d (Contains-append_left xs zs d x)
      | inr more ↦ elim (Contains-append_cases ys zs d more) [
        | inl y ↦ Contains-append_right (xs ++ zs) ys d y
        | inr z ↦ Contains-append_left (xs ++ zs) ys d (Contains-append_right xs zs d z)
      ]
    ])

swapped_back : (xs ys zs : List Datagram) (d : Datagram) → Has ((xs ++ zs) ++ ys) d → Has (xs ++ (ys ++ zs)) d
swapped_back xs ys zs d has =
    Has-from_contains (xs ++ (ys ++ zs)) d (elim (Contains-append_cases (xs ++ zs) ys d (Has-contains ((xs ++ zs) ++ ys) d has)) [
      | inl more ↦ elim (Contains-append_cases xs zs d more) [
        | inl x ↦ Contains-append_left xs (ys ++ zs) d x
        | inr z ↦ Contains-append_right xs (ys ++ zs) d (Contains-append_right ys zs d z)
      ]
      | inr y ↦ Contains-append_right xs (ys ++ zs) d (Contains-append_left ys zs d y)
    ])

-- ---- the turn or round, and the next start

module _ (a : Archive) (w : World) (h : Shows a w) (apart : keyed.IsApart at_port exact_port a.server.live) (mode : Mode) (port : ℕ) (from : Endpoint)
    (bytes : List ℕ) (timers left : List Timer) (new : Table) (took : Bool) (calls : List Entry) (now : Option (List Keeping))
    (p : IsTurnIn mode (next.Transfer port) a.server new timers left took calls a.kept now) (t : Taken) (maps : Maps)
    (receipt_is : p.answers.receipt ≡ datagram from bytes) (grant_is : p.answers.grant ≡ unkept)
    (wanted : (table_datagram all a.server.maps port from bytes a.server).step.taken ≡ Some t) (brought : Brought a.home.host calls a) where
  abbrev host : ℕ
  host = a.home.host

  -- the visit
  abbrev visit : Visited
  visit = next_visit (next.Transfer port) p.answers a.server

  -- it completes the file of this transfer
  file : (tr : Transfer) × (transfer_at port a.server ≡ Some tr) × Completes tr port from bytes t
  file = completes port t (transfer_at port a.server) from bytes a.server.maps a.server wanted

  abbrev refusal : TableAnswer
  refusal = refused_at port file.0 a.server

  -- which is refused
  refuses : table_datagram p.answers.grant p.answers.maps port from bytes a.server ≡ refusal
  refuses =
      ap (λ (g : Grant). table_datagram g p.answers.maps port from bytes a.server) grant_is
      ∙ ap (λ (o : Option Transfer). datagram_at o unkept p.answers.maps port from bytes a.server) file.1
      ∙ file.2.refuses p.answers.maps a.server

  received : visit ≡ transfer_received (datagram from bytes) p.answers port a.server
  received = ap (λ (r : Receipt). transfer_received r p.answers port a.server) receipt_is

  visit_server : visit.server ≡ without port a.server
  visit_server = ap (λ (v : Visited). v.server) received ∙ ap (λ (x : TableAnswer). x.server) refuses

  visit_sends : sent_in_calls host visit.calls ≡ outs host refusal.step.out
  visit_sends =
      let x = table_datagram p.answers.grant p.answers.maps port from bytes a.server in
      ap (λ (v : Visited). sent_in_calls host v.calls) received
      ∙ sent-calls host x.step.closed port x.step.out p.answers.replies
      ∙ ap (λ (y : TableAnswer). outs host y.step.out) refuses

  -- the datagram is brought
  visit_brings : IsBrought (arrival host port from bytes) a
  visit_brings =
      let end = walk_after mode visit p.late timers in
      let first = brought-first host visit.calls end.calls a (subst (λ (l : List Entry). Brought host l a) p.calls_are brought) in
      let there : Brought host (transfer_received (datagram from bytes) p.answers port a.server).calls a =
      subst (λ (v : Visited). Brought host v.calls a) received first in
      there (arrival host port from bytes) (record { position = 0; is = refl })

  -- the walk over all ports that time out, and one over the others, from before the visit
  abbrev begin : Table → Walk
  begin s = record { server = s; timers = timers_after mode visit.change timers; calls = [] }

  abbrev others : Walk
  others = fold (walk_on (restart mode)) (begin a.server) (others_of port p.late)

  walks : WalksApart port host (begin visit.server) (begin a.server)
  walks =
      record {
        server = visit_server;
        gone = ap (transfer_at port) visit_server ∙ keyed.lookup-removed at_port exact_port a.server.live port apart;
        sent = refl;
      }

  -- the archive after these time-outs
  abbrev waited : Archive
  waited = after_server others.server None others.calls a.kept a

  waited_brings : IsBrought (arrival host port from bytes) a → IsBrought (arrival host port from bytes) waited
  waited_brings (inl old) =
      inl
      (Has-from_contains waited.net _ (Contains-append_left a.net (sent_in_calls host others.calls) _ (Has-contains a.net _ old)))
  waited_brings (inr stranger) = inr (record { away = stranger.away; unbegun = stranger.unbegun })

  -- what it sends in all
  sends : sent_in_calls host calls ≡ outs host refusal.step.out ++ sent_in_calls host others.calls
  sends =
      let end = walk_after mode visit p.late timers in
      let same = (walks-apart port host (restart mode) p.late (begin visit.server) (begin a.server) walks).0 in
      ap (sent_in_calls host) p.calls_are
      ∙ flat_map-append (sent_in host) visit.calls end.calls
      ∙ ap (λ (l : List Datagram). l ++ sent_in_calls host end.calls) visit_sends
      ∙ ap (λ (l : List Datagram). outs host refusal.step.out ++ l) same.sent

  -- the world makes the time-outs of the other ports, and then the end
  pub end-makes : (reported : Option (List Keeping)) → IsMerged t.file a.server.maps maps →
      Makes (after_end t maps calls reported a) (late_members (others_of port p.late) ++ end_member (arrival host port from bytes) maps ∷ []) w
  end-makes reported merged =
      let ms = late_members (others_of port p.late) in
      let leaves = (walks-apart port host (restart mode) p.late (begin visit.server) (begin a.server) walks).1 in
      let waits : Makes waited ms w = walk_made (others_of port p.late) (restart mode) (begin a.server) a w (shows-still a w h) in
      let request : port ≢ a.server.request = found_kept (λ q. q ≢ a.server.request) port a.server.live h.apart file.0 file.1 in
      let other : port ≢ others.server.request = λ e. request (e ∙ leaves.request) in
      let merges : IsMerged t.file others.server.maps maps = subst (λ (m : Maps). IsMerged t.file m maps) (sym leaves.maps) merged in
      let ends =
      ends-makes waited (trace_from ms w) waits.shows port from bytes t maps file.0 (leaves.found ∙ file.1) other file.2 (waited_brings visit_brings)
      merges in
      let both = makes-then _ ms _ waited w waits ends in
      let out = outs host refusal.step.out in
      let sent = sent_in_calls host others.calls in
      let make : ℕ → List Datagram → Archive =
      λ n net. record {
        home = a.home;
        server = record { request = n; maps = maps; live = [] };
        clients = a.clients;
        begun = a.begun;
        taken = a.taken ++ t ∷ [];
        net = net;
        kept = reported;
      } in
      let ms_all = ms ++ end_member (arrival host port from bytes) maps ∷ [] in
      let permuted : Makes (make others.server.request (a.net ++ (out ++ sent))) ms_all w = record {
        fit = both.fit;
        shows = shows-permuted _ _ (a.net ++ (out ++ sent)) reported (swapped a.net out sent) (swapped_back a.net out sent) both.shows;
      } in
      let sent_all : Makes (make others.server.request (a.net ++ sent_in_calls host calls)) ms_all w =
      subst (λ (l : List Datagram). Makes (make others.server.request (a.net ++ l)) ms_all w) (sym sends) permuted in
      subst (λ (n : ℕ). Makes (make n (a.net ++ sent_in_calls host calls)) ms_all w) leaves.request sent_all

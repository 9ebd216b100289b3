-- The server does not know whether it has kept a file and ends, and the next start finds the new collection or the last one: the
-- invariant still holds.
use Rattle.std.proofs.Common.{◌≡◌, ◌≢◌, ◌⊎◌, ℕ, Bool, true, false, List, [], ◌∷◌, ◌++◌, Option, None, Some, refl, ap, sym, ◌∙◌, subst, inl, inr, ⊎_elim, ◌==◌, slice_get}
use Rattle.tftp_packet.specs.declared.endpoint.Endpoint.{Endpoint}
use Rattle.tftp_packet.specs.declared.out.Out.{Out}
use Rattle.archive_table.specs.Table.{Table, Maps, Taken, Grant, all, unkept, TableAnswer, transfer_at, table_datagram, IsMerged}
use Rattle.archive_model.specs.World.{Datagram, World, net_with, datagram_of, after_transfer, taken_with, ends, ends_if, ends_at, wanted_of, Extends, IsPrefix, taken_if}
use Rattle.archive_model.proofs.Places.{Has, Has-last, Has-push, IsPrefix-same, IsPrefix-push, either}
use Rattle.archive_model.proofs.Sources.{wanted-completes}
use Rattle.archive_theorem.specs.Headline.{IsOwn}
use Rattle.archive_theorem.proofs.Claim_Past.{IsHonest, IsBound, IsTaken, IsTakenFrom}
use Rattle.archive_theorem.proofs.Claim_Lasts.{honest-lasts, put-lasts, bound-lasts, opened-lasts}
use Rattle.archive_theorem.proofs.Claim_Invariant.{AreBest, TakesOnce, Holds}
use Rattle.archive_theorem.proofs.Server_Moves.{served-extends, bound_before, served-holds}
use Rattle.archive_theorem.proofs.Server_Sends.{net-prefix}
use Rattle.archive_theorem.proofs.Headline_Remains.{found_takes, TakesOrLeaves, unkept_other}
use Rattle.archive_theorem.proofs.Server_Handles.{datagram-holds}
use Rattle.archive_theorem.proofs.Server_Peers.{found_from}

-- what a host sends is from there
sent_from : (host : ℕ) (net : List Datagram) (out : Option Out) (d : Datagram) → Has (net_with host net out) d → Has net d ⊎ (d.source.host ≡ host)
sent_from host net None d has = inl has
sent_from host net (Some out) d has = either (λ old. old) (λ is. ap (λ (x : Datagram). x.source.host) is) (Has-push net (datagram_of host out) d has)

one_some : (o : Option Taken) (t u : Taken) → o ≡ Some t → o ≡ Some u → t ≡ u
one_some o t u is also = let both : Some t ≡ Some u = sym is ∙ also in cc

none_some : {P : Type 0} (o : Option Taken) (t : Taken) → o ≡ None → o ≡ Some t → P
none_some o t none is = let both : None ≡ Some t = sym none ∙ is in absurd cc

module _ (w : World) (h : Holds w) (d : Datagram) (among : Has w.net d) (t : Taken) (ours : d.target.host ≡ w.home.host)
    (takes : (table_datagram all w.server.maps d.target.port d.source d.bytes w.server).step.taken ≡ Some t) (maps : Maps) where
  -- the answer if it is not kept, and if it is
  abbrev refusal : TableAnswer
  refusal = table_datagram unkept maps d.target.port d.source d.bytes w.server

  abbrev taking : TableAnswer
  taking = table_datagram all maps d.target.port d.source d.bytes w.server

  -- the first takes nothing
  none_by : TakesOrLeaves unkept (λ m. table_datagram unkept m d.target.port d.source d.bytes w.server) w.server → refusal.step.taken ≡ None
  none_by (inl stays) = ap (λ (a : TableAnswer). a.step.taken) (stays.2 maps) ∙ stays.1.0
  none_by (inr takes) = absurd (unkept_other takes.2)

  none : refusal.step.taken ≡ None
  none = none_by (found_takes (transfer_at d.target.port w.server) unkept d.target.port d.source d.bytes w.server)

  -- the other takes this file, which makes the collections
  takes_by : TakesOrLeaves all (λ m. table_datagram all m d.target.port d.source d.bytes w.server) w.server →
      (taking.step.taken ≡ Some t) × (taking.server.maps ≡ maps)
  takes_by (inl stays) =
      none_some _ t (ap (λ (a : TableAnswer). a.step.taken) (stays.2 w.server.maps) ∙ stays.1.0) takes
  takes_by (inr one) =
      let same : one.0 ≡ t = one_some _ one.0 t (one.1 w.server.maps).0 takes in
      ((one.1 maps).0 ∙ ap Some same, (one.1 maps).1)

  takes_it : (taking.step.taken ≡ Some t) × (taking.server.maps ≡ maps)
  takes_it = takes_by (found_takes (transfer_at d.target.port w.server) all d.target.port d.source d.bytes w.server)

  -- the invariant holds in the world in which it is not kept
  refused-holds : Holds (after_transfer refusal w)
  refused-holds = datagram-holds w h d among ours unkept maps (λ u is. none_some _ u none is)

  -- what is sent
  abbrev net : List Datagram
  net = net_with w.home.host w.net refusal.step.out

  module _ (found : Bool) where
    -- the world after it
    abbrev after : World
    after = ends found t maps d w

    grown : (b : Bool) (ts : List Taken) → IsPrefix ts (taken_if b t ts)
    grown true ts = IsPrefix-push ts t
    grown false ts = IsPrefix-same ts

    grows : Extends w.past after.past
    grows = served-extends w.past (net-prefix w.home.host w.net refusal.step.out) (grown found w.taken) (grown found w.recovered) (IsPrefix-same w.opened)

    -- it has all that has happened where it is not kept
    later : Extends (after_transfer refusal w).past after.past
    later =
        record {
          home = refl;
          net = IsPrefix-same net;
          begun = IsPrefix-same w.begun;
          taken = subst (λ (o : Option Taken). IsPrefix (taken_with o w.taken) (taken_if found t w.taken)) (sym none) (grown found w.taken);
          recovered = grown found w.recovered;
          sent = IsPrefix-same w.sent;
          got = IsPrefix-same w.got;
          opened = IsPrefix-same w.opened;
          strays = IsPrefix-same w.strays;
        }

    honest : (x : Datagram) → Has net x → Has w.net x ⊎ ((x.source.host ≡ w.home.host) × IsHonest after.past x)
    honest x has = either (λ old. old) (λ from. (from, honest-lasts later x (refused-holds.net x has))) (sent_from w.home.host w.net refusal.step.out x has)

    -- what must still be shown: of the files taken, and of the collections
    record Ends : Type 0 where
      files : (u : Taken) → Has (taken_if found t w.taken) u → Has w.taken u ⊎ IsTaken after.past u
      once : TakesOnce after.past
      best : AreBest (taken_if found t w.taken) after.server.maps

    ended : Ends → Holds after
    ended e =
        served-holds w h net after.server (taken_if found t w.taken) (taken_if found t w.recovered) w.opened
        (record {
          more = grows;
          honest = honest;
          apart = tt;
          live = λ port u is. absurd cc;
          untaken = λ port u is. absurd cc;
          openings = λ o has. inl has;
          files = e.files;
          once = e.once;
          best = e.best;
        })

  -- the next start finds the last collection
  pub unfound-holds : Holds (ends false t maps d w)
  unfound-holds = ended false (record { files = λ u has. inl has; once = h.once; best = h.best })

  -- ---- it finds the new one

  module _ (merged : IsMerged t.file w.server.maps maps) where
    -- the invariant holds in the world in which the file is kept
    took-holds : Holds (after_transfer taking w)
    took-holds =
        datagram-holds w h d among ours all maps
        (λ u is.
        let same : t ≡ u = one_some _ t u takes_it.0 is in
        subst (λ (x : Taken). IsMerged x.file w.server.maps taking.server.maps) same (subst (IsMerged t.file w.server.maps) (sym takes_it.1) merged))

    -- there it is the last file taken
    taken_is : taken_with taking.step.taken w.taken ≡ w.taken ++ t ∷ []
    taken_is = ap (λ (o : Option Taken). taken_with o w.taken) takes_it.0

    away : t.peer.host ≢ w.home.host
    away = found_from w h (transfer_at d.target.port w.server) all w.server.maps d.target.port d.source d.bytes refl t takes

    -- what is claimed of it there
    there : IsTaken (after_transfer taking w).past t
    there = took-holds.taken t (subst (λ (ts : List Taken). Has ts t) (sym taken_is) (Has-last w.taken t)) away

    -- its client was bound before
    was_bound : (port : ℕ) → IsBound (after_transfer taking w).past t.peer port → IsBound w.past t.peer port
    was_bound port bound =
        bound_before w h (net_with w.home.host w.net taking.step.out) taking.server (taken_with taking.step.taken w.taken) w.recovered w.opened
        (sent_from w.home.host w.net taking.step.out) t.peer port away bound

    -- so it is claimed here
    new_taken : IsTaken (ends true t maps d w).past t
    new_taken =
        record {
          port = there.port;
          count = there.count;
          opened = record { among = there.opened.among };
          whose = λ own.
              let from = there.whose own in
              record {
                began = record { count = from.began.count; among = from.began.among };
                bound = bound-lasts (grows true) t.peer there.port (was_bound there.port from.bound);
              };
        }

    once_here : TakesOnce (ends true t maps d w).past
    once_here = subst (λ (ts : List Taken). TakesOnce (record w.past { net = net; taken = ts; recovered = w.recovered ++ t ∷ [] })) taken_is took-holds.once

    best_here : AreBest (w.taken ++ t ∷ []) maps
    best_here =
        subst (λ (m : Maps). AreBest (w.taken ++ t ∷ []) m) takes_it.1 (subst (λ (ts : List Taken). AreBest ts taking.server.maps) taken_is took-holds.best)

    pub found-holds : Holds (ends true t maps d w)
    found-holds =
        ended true
        (record {
          files = λ u has. either (λ old. old) (λ is. subst (IsTaken (ends true t maps d w).past) (sym is) new_taken) (Has-push w.taken t u has);
          once = once_here;
          best = best_here;
        })

-- ---- the event

module _ (w : World) (h : Holds w) where
  -- the files that are taken make the collections
  abbrev pub MergesAfter : World → Type 0
  MergesAfter v = (t : Taken) → v.taken ≡ w.taken ++ t ∷ [] → IsMerged t.file w.server.maps v.server.maps

  ends_found : (d : Datagram) → Has w.net d → (t : Taken) → wanted_of (d.target.host == w.home.host) d w ≡ Some t → (found : Bool) (maps : Maps) →
      MergesAfter (ends found t maps d w) → Holds (ends found t maps d w)
  ends_found d among t completes false maps merged = let c = wanted-completes w d t completes in unfound-holds w h d among t c.ours c.takes maps
  ends_found d among t completes true maps merged =
      let c = wanted-completes w d t completes in found-holds w h d among t c.ours c.takes maps (merged t refl)

  ends_file : (d : Datagram) → Has w.net d → (file : Option Taken) → wanted_of (d.target.host == w.home.host) d w ≡ file → (found : Bool) (maps : Maps) →
      MergesAfter (ends_if file found maps d w) → Holds (ends_if file found maps d w)
  ends_file d among None completes found maps merged = h
  ends_file d among (Some t) completes found maps merged = ends_found d among t completes found maps merged

  -- a keep whose outcome is unknown keeps the invariant
  pub ends_at-holds : (index : ℕ) (sent : Option Datagram) → slice_get w.net index ≡ sent → (found : Bool) (maps : Maps) →
      MergesAfter (ends_at sent found maps w) → Holds (ends_at sent found maps w)
  ends_at-holds index None is found maps merged = h
  ends_at-holds index (Some d) is found maps merged =
      ends_file d (record { position = index; is = is }) (wanted_of (d.target.host == w.home.host) d w) refl found maps merged

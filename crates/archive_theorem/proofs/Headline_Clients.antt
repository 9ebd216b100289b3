-- The headline of each client follows from the invariant, and with it the headline if no port is reused.
use Rattle.std.proofs.Common.{◌≡◌, ◌≢◌, ◌⊎◌, ℕ, ◌≤◌, List, [], map, take, length, Contains, Some, slice_get, refl, ap, sym, ◌∙◌, subst, inl, inr, arith, le_refl, take_all}
use Rattle.std.proofs.lemmas.List.{length-map}
use Rattle.tftp_packet.specs.declared.endpoint.Endpoint.{Endpoint}
use Rattle.archive_table.specs.Table.{Taken}
use Rattle.archive_client.specs.Client.{put}
use Rattle.archive_model.specs.World.{Begun, to_write, Got, World, Origin, empty_origin, RunFrom, given, first_world, last_world, IsPrefix}
use Rattle.archive_theorem.specs.Headline.{IsOwn, HasOwnPorts, HasOperation, IsStrayFrom, TakenOnce, SentOnce, IsFinishedGet, ClientHeadline, ClientsHeadline, Headline}
use Rattle.archive_model.proofs.Places.{Has, Has-contains, Has-from_contains, take-prefix}
use Rattle.archive_model.proofs.Growing.{run-extends}
use Rattle.archive_theorem.proofs.Claim_Past.{HasBegun, HasPut, IsStranger, IsAskedBy, IsTaken, IsSent, IsGot}
use Rattle.archive_theorem.proofs.Claim_Owns.{own-each, put_begun, get_begun}
use Rattle.archive_theorem.proofs.Server_Moves.{begun_away}
use Rattle.archive_theorem.proofs.Claim_Invariant.{Holds}
use Rattle.archive_theorem.proofs.Event_Happens.{last-holds}
use Rattle.archive_theorem.proofs.Headline_Peers.{AreFromOthers, run-from_others}

module _ (o : Origin) (w : World) (h : Holds w) (same : w.home ≡ o.home) (start : IsPrefix (map (given o.home) o.texts) w.taken)
    (others : AreFromOthers o.home (length o.texts) w.taken) where
  -- an operation that has begun, in the headline's terms
  begun_there : (e : Endpoint) → HasBegun w.past e → HasOperation w.begun e
  begun_there e b = (b.begun, Has-contains w.begun b.begun b.among, b.client)

  -- ---- whatever ports are reused

  -- a file was taken from a stranger or from an operation's endpoint
  known : (t : Taken) (i : IsTaken w.past t) →
      IsStranger w.past t.peer ⊎ IsAskedBy w.past (record { peer = t.peer; port = i.port; asked = to_write; taken = i.count }) to_write →
      HasOperation w.begun t.peer ⊎ IsStrayFrom w.strays t.peer
  known t i (inl stranger) = inr (stranger.datagram, Has-contains w.strays _ stranger.among, stranger.source)
  known t i (inr asked) = inl (begun_there t.peer (put_begun t.peer asked.0 asked.1))

  -- the same for each file that was taken, after the first texts
  taken_known : (i : ℕ) (t : Taken) → length o.texts ≤ i → slice_get w.taken i ≡ Some t → HasOperation w.begun t.peer ⊎ IsStrayFrom w.strays t.peer
  taken_known i t later at =
      let away : t.peer.host ≢ w.home.host = λ ours. others i t later at (ours ∙ ap (λ (e : Endpoint). e.host) same) in
      let is = h.taken t (record { position = i; is = at }) away in
      known t is (h.opened _ is.opened.among).whose

  -- the first texts are the first files taken
  first_taken : take (length o.texts) w.taken ≡ map (given o.home) o.texts
  first_taken =
      let texts = map (given o.home) o.texts in
      let size : length o.texts ≡ length texts = sym (length-map o.texts (given o.home)) in
      ap (λ (n : ℕ). take n w.taken) size ∙ take-prefix texts w.taken (length texts) start (le_refl (length texts)) ∙ take_all (length texts) texts
      (le_refl (length texts))

  -- ---- a client whose ports are its own

  module _ (e : Endpoint) (operation : HasOperation w.begun e) (own : IsOwn w e) where
    -- it is not on the server's host
    away : (x : Endpoint) → x ≡ e → x.host ≢ w.home.host
    away x same =
        let begun : HasBegun w.past e = record { begun = operation.0; among = Has-from_contains w.begun operation.0 operation.1; client = operation.2 } in
        λ ours. begun_away w h e begun (ap (λ (y : Endpoint). y.host) (sym same) ∙ ours)

    -- a put of this file has begun there
    abbrev PutBy : List ℕ → Type 0
    PutBy file = (b : Begun) × Contains w.begun b × (b.client ≡ e) × (b.operation ≡ put file)

    -- the same by the claims
    put_by : (file : List ℕ) → HasPut w.past e file → PutBy file
    put_by file p = (record { client = e; operation = put file; taken = p.count }, Has-contains w.begun _ p.among, refl, refl)

    -- what was taken from there is the file of the put there
    unchanged : (t : Taken) → IsTaken w.past t → t.peer ≡ e → PutBy t.file
    unchanged t i same =
        let from = i.whose (subst (IsOwn w) (sym same) own) in
        put_by t.file (subst (λ (x : Endpoint). HasPut w.past x t.file) same from.began)

    -- and was taken once
    once : (i j : ℕ) (t u : Taken) → slice_get w.taken i ≡ Some t → slice_get w.taken j ≡ Some u → t.peer ≡ e → u.peer ≡ e → i ≡ j
    once i j t u at_i at_j first second =
        h.once i j t u at_i at_j (first ∙ sym second) (away t.peer first) (subst (IsOwn w) (sym first) own)

    -- what counts as sent was taken exactly once
    sent_once : IsSent w.past e → SentOnce w.past e
    sent_once s =
        let there = s.is_taken own in
        record {
          file = s.file;
          began = put_by s.file s.began;
          position = there.among.position;
          is_taken = there.among.is;
          only = λ i t at_i same. once i there.among.position t _ at_i there.among.is same refl;
        }

    -- what was fetched is the collection at one of the client's own requests
    finished : (g : Got) → IsGot w.past g → g.client ≡ e → IsFinishedGet w.past g
    finished g is same =
        let f = is.whose (subst (IsOwn w) (sym same) own) in
        record {
          rules = is.rules;
          began = _;
          has_begun = Has-contains w.begun _ is.began.among;
          by = refl;
          operation = refl;
          opening = _;
          was_opened = Has-contains w.opened _ f.serves.opened.among;
          peer = refl;
          asked = refl;
          since = f.since;
          counted = f.serves.is_text.within;
          best = f.serves.is_text.best;
        }

    -- so the headline holds for this client
    client : ClientHeadline w.past e
    client =
        record {
          unchanged = λ t among same. unchanged t (h.taken t (Has-from_contains w.taken t among) (away t.peer same)) same;
          once = once;
          sent = λ among. sent_once (h.sent e (Has-from_contains w.sent e among));
          got = λ g among same. finished g (h.got g (Has-from_contains w.got g among)) same;
        }

  -- the headline holds for each client whose ports are its own
  pub clients : ClientsHeadline o w
  clients =
      record {
        first = first_taken;
        taken = taken_known;
        sent = λ e among. let s = h.sent e (Has-from_contains w.sent e among) in begun_there e (put_begun e s.file s.began);
        got = λ g among.
            let is = h.got g (Has-from_contains w.got g among) in
            begun_there g.client (get_begun g.client is.rules is.count is.began);
        lynx = (w.server.maps.lynx, h.best.lynx, refl);
        ms = (w.server.maps.ms, h.best.ms, refl);
        client = client;
      }

-- ---- if no port is reused, and the server had nothing at first

module _ (home : Endpoint) (w : World) (all : ClientsHeadline (empty_origin home) w) (own : HasOwnPorts w) where
  -- the headline holds for each operation
  each : (e : Endpoint) → HasOperation w.begun e → ClientHeadline w.past e
  each e operation = all.client e operation (own-each w own e operation)

  known_all : (t : Taken) → Has w.taken t → HasOperation w.begun t.peer ⊎ IsStrayFrom w.strays t.peer
  known_all t has = all.taken has.position t (omega arith) has.is

  -- each file is taken at most once, unchanged
  taken_once : TakenOnce w.past
  taken_once =
      record {
        known = λ t among. known_all t (Has-from_contains w.taken t among);
        unchanged = λ t among operation. (each t.peer operation).unchanged t among refl;
        once = λ i j t u at_i at_j operation same. (each t.peer operation).once i j t u at_i at_j refl (sym same);
      }

  -- so the headline holds
  pub headline : Headline w
  headline =
      record {
        taken = taken_once;
        sent = λ e among. (each e (all.sent e among)).sent among;
        lynx = all.lynx;
        ms = all.ms;
        got = λ g among. (each g.client (all.got g among)).got g among refl;
      }

-- after any run
pub run-clients : (o : Origin) (r : RunFrom o) → ClientsHeadline o (last_world r)
run-clients o r =
    let more = run-extends r.steps (first_world o) in
    clients o (last_world r) (last-holds o r) more.home more.taken (run-from_others o r)

-- after any run from nothing in which no port is reused
pub run-headline : (home : Endpoint) (r : RunFrom (empty_origin home)) → HasOwnPorts (last_world r) → Headline (last_world r)
run-headline home r own = headline home (last_world r) (run-clients (empty_origin home) r) own

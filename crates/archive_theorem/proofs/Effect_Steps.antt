-- The step at which an operation takes effect, for each put that counts as sent and each get that has fetched.
use Rattle.std.proofs.Common.{◌≡◌, ◌≢◌, ◌⊎◌, ℕ, ◌<◌, List, [], ◌∷◌, ◌++◌, length, take, slice_get, Contains, Some, refl, ap, sym, ◌∙◌, subst, inl, inr, ⊎_elim, arith, length-append, le_refl, take_all}
use Rattle.tftp_packet.specs.declared.endpoint.Endpoint.{Endpoint}
use Rattle.tws_file.specs.declared.«ruleset».Ruleset.{Ruleset}
use Rattle.tws_best.specs.Best.{collection_text, IsBestOver}
use Rattle.archive_table.specs.Table.{Maps, Taken, map_of}
use Rattle.archive_client.specs.Client.{put, get}
use Rattle.archive_model.specs.World.{Begun, Opening, to_read, Got, World, WorldStep, Origin, RunFrom, first_world, last_world, happens, run_from, HasMerged, AllMerged, Extends}
use Rattle.archive_theorem.specs.Headline.{IsOwn, files_of}
use Rattle.archive_theorem.specs.Effects.{HasBegunWith, PutsAt, GetsAt, TakesEffect, ReadsAtOnce}
use Rattle.archive_model.proofs.Places.{Has, Has-last, Has-contains, Has-from_contains, at-last, at-prefix, before_last, take-prefix}
use Rattle.archive_theorem.proofs.Claim_Past.{IsStranger, IsAskedBy, IsBound, HasBegun}
use Rattle.archive_theorem.proofs.Claim_Owns.{own-before, no_stranger, one_text, put_begun, get_begun}
use Rattle.archive_theorem.proofs.Server_Moves.{begun_away}
use Rattle.archive_theorem.proofs.Claim_Invariant.{Holds, given-at, first-holds}
use Rattle.archive_theorem.proofs.Event_Happens.{merged-first, merged-rest, step-holds, run_from-holds}
use Rattle.archive_theorem.proofs.Keeper_Holds.{best_at}
use Rattle.archive_model.proofs.Growing.{AddsOne-weaker, step-extends, step-adds, begins-apart, end-extends, next-extends, run-extends}
use Rattle.archive_model.proofs.Origins.{AddedIn, added-in}
use Rattle.archive_theorem.proofs.Claim_Lasts.{begun-lasts, bound-lasts}

-- ---- what a step adds

-- a step of the run has taken this file
abbrev TakesIn : List WorldStep → World → ℕ → Taken → Type 0
TakesIn steps w i t = AddedIn (λ (v : World). v.taken) (λ v s u. Unit {0}) steps w i t

-- a step of the run has opened this transfer, when so many files were taken
abbrev OpensIn : List WorldStep → World → ℕ → Opening → Type 0
OpensIn steps w i o = AddedIn (λ (v : World). v.opened) (λ v s p. p.taken ≡ length v.taken) steps w i o

one_more : {A P : Type 0} (xs : List A) (x : A) → xs ≡ xs ++ x ∷ [] → P
one_more xs x e = let more = ap length e ∙ length-append xs (x ∷ []) in absurd (omega arith)

module _ (w : World) (s : WorldStep) (b : Begun) (has : Has (happens s w).begun b) where
  -- a step that takes a file begins nothing
  begun_if_taken : (t : Taken) → (happens s w).taken ≡ w.taken ++ t ∷ [] → Has w.begun b
  begun_if_taken t takes =
      ⊎_elim (λ same. subst (λ (bs : List Begun). Has bs b) same has) (λ apart. one_more w.taken t (sym apart.0 ∙ takes)) (begins-apart w s)

  -- nor does one that opens a transfer
  begun_if_opened : (o : Opening) → (happens s w).opened ≡ w.opened ++ o ∷ [] → Has w.begun b
  begun_if_opened o opens =
      ⊎_elim (λ same. subst (λ (bs : List Begun). Has bs b) same has) (λ apart. one_more w.opened o (sym apart.1 ∙ opens)) (begins-apart w s)

-- ---- a run that is split

module _ (w : World) (h : Holds w) (steps : List WorldStep) (merged : AllMerged steps w) (before : List WorldStep) (step : WorldStep)
    (after : List WorldStep) (split : steps ≡ before ++ step ∷ after) where
  -- the world before it
  abbrev first : World
  first = run_from before w

  -- the world after it
  abbrev next : World
  next = happens step first

  -- the steps of the run, in two parts around it
  parts_merged : AllMerged (before ++ step ∷ after) w
  parts_merged = subst (λ (l : List WorldStep). AllMerged l w) split merged

  -- the invariant holds before it
  first_holds : Holds first
  first_holds = run_from-holds before w h (merged-first before (step ∷ after) w parts_merged)

  -- and at the end
  last_holds : Holds (run_from steps w)
  last_holds = run_from-holds steps w h merged

  -- the file that it takes makes the collections
  step_merged : HasMerged step first
  step_merged = (merged-rest before (step ∷ after) w parts_merged).0

  -- the invariant holds after it
  next_holds : Holds next
  next_holds = step-holds first step first_holds step_merged

  -- after it the lists have only grown
  next_grows : Extends next.past (run_from steps w).past
  next_grows = subst (λ (l : List WorldStep). Extends next.past (run_from l w).past) (sym split) (next-extends before after step w)

  -- and since before it
  first_grows : Extends first.past (run_from steps w).past
  first_grows = subst (λ (l : List WorldStep). Extends first.past (run_from l w).past) (sym split) (end-extends before (step ∷ after) w)

  -- ---- a put

  module _ (e : Endpoint) (own : IsOwn (run_from steps w) e) where
    -- they were after the step
    own_next : IsOwn next e
    own_next = own-before next_grows e own

    -- and before it
    own_first : IsOwn first e
    own_first = own-before first_grows e own

    module _ (away : e.host ≢ first.home.host) (file : List ℕ) (takes : next.taken ≡ first.taken ++ record { peer = e; file = file } ∷ []) where
      -- that file is the last one taken
      last_taken : slice_get next.taken (length first.taken) ≡ Some (record { peer = e; file = file })
      last_taken = ap (λ (ts : List Taken). slice_get ts (length first.taken)) takes ∙ at-last first.taken _

      -- its peer is not on the server's host
      away_next : e.host ≢ next.home.host
      away_next ours = away (ours ∙ ap (λ (x : Endpoint). x.host) (step-extends first step).home)

      -- a put of it has begun before the step
      put_began : HasBegunWith first e (put file)
      put_began =
          let from = (next_holds.taken _ (record { position = length first.taken; is = last_taken }) away_next).whose own_next in
          let has = begun_if_taken first step _ from.began.among _ takes in
          (record { client = e; operation = put file; taken = from.began.count }, Has-contains first.begun _ has, refl, refl)

      -- it did not count as sent before
      unsent_first : Contains first.sent e → ⊥
      unsent_first among =
          let there = ((first_holds.sent e (Has-from_contains first.sent e among)).is_taken own_first).among in
          let early : there.position < length first.taken = before_last first.taken there.position _ there.is in
          let still = at-prefix first.taken next.taken (step-extends first step).taken there.position _ there.is in
          let same : there.position ≡ length first.taken = next_holds.once there.position (length first.taken) _ _ still last_taken refl away_next own_next in
          omega arith

      -- so the put takes effect at this step
      puts_at : PutsAt first step e file
      puts_at =
          record {
            began = put_began;
            unsent = unsent_first;
            takes = takes;
            merges = step_merged _ takes;
          }

  -- ---- a get

  module _ (e : Endpoint) (own : IsOwn (run_from steps w) e) (rules : Ruleset) (port count : ℕ)
      (opens : next.opened ≡ first.opened ++ record { peer = e; port = port; asked = to_read rules; taken = count } ∷ [])
      (counted : count ≡ length first.taken) where
    abbrev opening : Opening
    opening = record { peer = e; port = port; asked = to_read rules; taken = count }

    -- a get of that collection has begun before the step
    asked_by : IsStranger next.past e ⊎ IsAskedBy next.past opening (to_read rules) → HasBegunWith first e (get rules)
    asked_by (inl stranger) = no_stranger next.past e (own_next e own) stranger
    asked_by (inr asked) =
        let has = begun_if_opened first step _ asked.1.among _ opens in
        (record { client = e; operation = get rules; taken = asked.0 }, Has-contains first.begun _ has, refl, refl)

    -- the transfer is the last one opened
    opened_last : Has next.opened opening
    opened_last = subst (λ (os : List Opening). Has os opening) (sym opens) (Has-last first.opened opening)

    -- what it fetches is the collection as it was then
    text_then : (file : List ℕ) → IsBestOver rules (files_of (take count (run_from steps w).taken)) file →
        file ≡ collection_text (map_of rules first.server.maps)
    text_then file best =
        let prefix : take count (run_from steps w).taken ≡ first.taken =
        ap (λ (n : ℕ). take n (run_from steps w).taken) counted ∙ take-prefix first.taken (run_from steps w).taken (length first.taken)
        first_grows.taken (le_refl (length first.taken)) ∙ take_all (length first.taken) first.taken (le_refl (length first.taken)) in
        let over = subst (λ (ts : List Taken). IsBestOver rules (files_of ts) file) prefix best in
        one_text rules (files_of first.taken) file (collection_text (map_of rules first.server.maps)) over
        (map_of rules first.server.maps, best_at first.taken first.server.maps rules first_holds.best, refl)

    -- the client was not bound to the port of an earlier transfer, so it had fetched nothing
    unfetched_first : IsBound (run_from steps w).past e port → (g : Got) → Contains first.got g → g.client ≡ e → ⊥
    unfetched_first bound g among same =
        let was = first_holds.got g (Has-from_contains first.got g among) in
        let f = was.whose (subst (IsOwn first) (sym same) (own_first e own)) in
        let began : HasBegun (run_from steps w).past e =
        begun-lasts first_grows e (subst (HasBegun first.past) same (get_begun g.client was.rules was.count was.began)) in
        let here : IsBound (run_from steps w).past e f.port =
        subst (λ (x : Endpoint). IsBound (run_from steps w).past x f.port) same (bound-lasts first_grows g.client f.port f.bound) in
        let one : f.port ≡ port = last_holds.one_port e f.port port began own here bound in
        let early : f.serves.opened.among.position < length first.opened = before_last first.opened f.serves.opened.among.position _ f.serves.opened.among.is in
        let still = at-prefix first.opened (run_from steps w).opened first_grows.opened f.serves.opened.among.position _ f.serves.opened.among.is in
        let now = at-prefix next.opened (run_from steps w).opened next_grows.opened (length first.opened) opening
        (ap (λ (os : List Opening). slice_get os (length first.opened)) opens ∙ at-last first.opened opening) in
        let index : f.serves.opened.among.position ≡ length first.opened =
        own.openings f.serves.opened.among.position (length first.opened) _ opening still now same refl one in
        omega arith

    -- so the get takes effect at this step
    gets_at : IsBound (run_from steps w).past e port → (file : List ℕ) → IsBestOver rules (files_of (take count (run_from steps w).taken)) file →
        GetsAt first step e rules file
    gets_at bound file best =
        record {
          began = asked_by (next_holds.opened opening opened_last).whose;
          unfetched = unfetched_first bound;
          port = port;
          opens = subst (λ (n : ℕ). next.opened ≡ first.opened ++ record { peer = e; port = port; asked = to_read rules; taken = n } ∷ []) counted opens;
          file_is = text_then file best;
        }

-- ---- the operations of a run

module _ (o : Origin) (r : RunFrom o) where
  -- the invariant holds at first
  at_first : Holds (first_world o)
  at_first = first-holds o

  -- and at the end
  at_last : Holds (last_world r)
  at_last = run_from-holds r.steps (first_world o) at_first r.merged

  -- a file that was there at first is no put's, so some step took it
  put_split : (e : Endpoint) → IsOwn (last_world r) e → e.host ≢ o.home.host → (position : ℕ) (file : List ℕ) →
      (slice_get (first_world o).taken position ≡ Some (record { peer = e; file = file })) ⊎ TakesIn r.steps (first_world o) position (record { peer = e; file = file }) →
      TakesEffect (first_world o) r.steps e
  put_split e own away position file (inl old) = absurd (away (given-at o.home o.texts position _ old))
  put_split e own away position file (inr k) =
      let home = (run-extends k.before (first_world o)).home in
      record {
        file = file;
        before = k.before;
        step = k.step;
        after = k.after;
        split = k.split;
        at = puts_at (first_world o) at_first r.steps r.merged k.before k.step k.after k.split e own
            (λ ours. away (ours ∙ ap (λ (x : Endpoint). x.host) home)) file k.adds;
      }

  -- each put that counts as sent takes effect at a step of the run
  pub puts-at : (e : Endpoint) → IsOwn (last_world r) e → Contains (last_world r).sent e → TakesEffect (first_world o) r.steps e
  puts-at e own among =
      let s = at_last.sent e (Has-from_contains (last_world r).sent e among) in
      let there = (s.is_taken own).among in
      let away = begun_away (last_world r) at_last e (put_begun e s.file s.began) in
      let home = (run-extends r.steps (first_world o)).home in
      put_split e own (λ ours. away (ours ∙ ap (λ (x : Endpoint). x.host) (sym home))) there.position s.file
      (added-in (λ (v : World). v.taken) (λ v s u. Unit {0}) (λ v s. AddsOne-weaker (λ u fits. tt) (step-adds v s).taken) r.steps
      (first_world o) there.position _ there.is)

  -- at first no transfer was opened, so some step opened it
  get_split : (g : Got) → IsOwn (last_world r) g.client → (rules : Ruleset) (port count : ℕ) → IsBound (last_world r).past g.client port →
      IsBestOver rules (files_of (take count (last_world r).taken)) g.file → (i : ℕ) →
      (slice_get (first_world o).opened i ≡ Some (record { peer = g.client; port = port; asked = to_read rules; taken = count })) ⊎ OpensIn r.steps (first_world o) i
      (record { peer = g.client; port = port; asked = to_read rules; taken = count }) →
      ReadsAtOnce (first_world o) r.steps g
  get_split g own rules port count bound best i (inl old) = absurd cc
  get_split g own rules port count bound best i (inr k) =
      record {
        rules = rules;
        before = k.before;
        step = k.step;
        after = k.after;
        split = k.split;
        at = gets_at (first_world o) at_first r.steps r.merged k.before k.step k.after k.split g.client own rules port count k.adds k.fits bound g.file best;
      }

  -- each get that has fetched takes effect at a step of the run
  pub gets-at : (g : Got) → IsOwn (last_world r) g.client → Contains (last_world r).got g → ReadsAtOnce (first_world o) r.steps g
  gets-at g own among =
      let is = at_last.got g (Has-from_contains (last_world r).got g among) in
      let f = is.whose own in
      get_split g own is.rules f.port f.serves.count f.bound f.serves.is_text.best f.serves.opened.among.position
      (added-in (λ (v : World). v.opened) (λ v s o. o.taken ≡ length v.taken) (λ v s. AddsOne-weaker (λ o fits. fits.0) (step-adds v s).opened) r.steps
      (first_world o) f.serves.opened.among.position _
      f.serves.opened.among.is)
